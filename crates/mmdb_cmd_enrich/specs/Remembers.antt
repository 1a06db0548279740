-- What is remembered from row to row: of records that are kept what is wanted of them, and the text where there is none.
use Rattle.std.specs.Prelude.{List}
use Rattle.mmdb_reader.specs.File.{Database}
use Rattle.mmdb_cmd_enrich.specs.Kept.{AreKept}
use Rattle.mmdb_cmd_enrich.specs.Template.{Template, IsNoneText}
use Rattle.mmdb_cmd_enrich.specs.declared.memory.KeptTexts.{KeptTexts}

pub record Remembers (template : Template) (dbs : List Database) (kept_texts : KeptTexts) : Type 0 where
  pub kept : AreKept (record { template = template; databases = dbs }) kept_texts.cache
  pub none : IsNoneText template kept_texts.none.items
