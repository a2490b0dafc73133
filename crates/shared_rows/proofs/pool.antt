mod OutLemmas
