mod PastPieces
