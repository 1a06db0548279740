mod CountLemmas
mod AddLemmas
mod TallyLemmas
