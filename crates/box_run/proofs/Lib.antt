mod BoxRunLaws
