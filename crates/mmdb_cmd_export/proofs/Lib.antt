mod GatheredLaws
mod ListedLaws
