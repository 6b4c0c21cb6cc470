mod TrailerLaws
