mod PairPlan
