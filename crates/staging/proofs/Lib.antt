mod CellPutLaws
