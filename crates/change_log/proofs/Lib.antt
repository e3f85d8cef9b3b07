mod UndoLemmas
mod LoopLemmas
