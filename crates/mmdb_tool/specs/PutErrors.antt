-- How a sink's error is one of a list.
use Rattle.std.specs.Prelude.{◌≡◌}
use Rattle.mmdb_tool.specs.declared.sink.PutError.{PutError}
use Rattle.mmdb_tool.specs.declared.sink.PutError.TheVariants as put
use Rattle.mmdb_tool.specs.declared.list.ListError.{ListError}
use Rattle.mmdb_tool.specs.declared.list.ListError.TheVariants.{Write, Stopped}

abbrev pub BecomesListError : PutError → ListError → Type 0
BecomesListError (put.Write error) e = e ≡ Write error
BecomesListError put.Stopped e = e ≡ Stopped
