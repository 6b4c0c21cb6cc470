mod DecimalLaws
