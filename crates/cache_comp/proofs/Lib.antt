mod LinesLemmas
mod RecLemmas
