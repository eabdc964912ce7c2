mod WidthLemmas
