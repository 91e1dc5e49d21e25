mod PairCauses
