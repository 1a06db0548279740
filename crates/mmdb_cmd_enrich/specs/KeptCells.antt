-- The bytes of cells that are kept.
use Rattle.std.specs.Prelude.{ℕ, List, take, length}
use Rattle.mmdb_cmd_enrich.specs.declared.kept_cells.KeptCells.{KeptCells}
use Rattle.mmdb_cmd_enrich.specs.declared.kept_cells.KeptCells.TheVariants.{Few, Many}

abbrev pub bytes_of : KeptCells → List ℕ
bytes_of (Few few) = take few.length few.bytes
bytes_of (Many cells) = cells.items

-- how many of them are on the heap
abbrev pub heap_of : KeptCells → ℕ
heap_of (Few few) = 0
heap_of (Many cells) = length cells.items
