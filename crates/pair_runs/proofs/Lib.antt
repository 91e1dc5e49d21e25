mod PlayingPairs
