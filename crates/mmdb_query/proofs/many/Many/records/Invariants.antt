use Rattle.std.proofs.Common.{◌≡◌, map, take}
use Rattle.mmdb_reader.specs.File.{data_section}
use Rattle.mmdb_query.specs.Abreast.{offsets_said}
use Rattle.mmdb_query.proofs.many.Many.records.Given as goal

abbrev pub invariant-loop-place : goal.invariant-loop-place
invariant-loop-place g l = record {
  sections : map (λ r. data_section r.reader.now) l.records.items ≡ map (λ d. data_section d.reader.now) (take l.place l.self.databases.now);
  offsets : map (λ r. r.offset) l.records.items ≡ offsets_said (take l.place l.self.together.answers);
}
