mod SliceLemmas
mod KeyLemmas
mod FixLemmas
mod SeekLemmas
mod RootLemmas
