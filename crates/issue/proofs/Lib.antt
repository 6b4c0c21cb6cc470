mod IssuedLaws
