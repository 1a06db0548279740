mod LineLemmas
mod ListLemmas
