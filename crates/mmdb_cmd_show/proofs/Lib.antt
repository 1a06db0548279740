mod AskedLaws
mod PrintedLaws
