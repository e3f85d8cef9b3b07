mod FixedLemmas
