use Rattle.mmdb_decode.proofs.ScalarLaws.{reads_u16, reads_u32, reads_u64, reads_u128, reads_i32, reads_bool, reads_double, reads_float, reads_text, reads_bytes}
use Rattle.mmdb_decode.proofs.laws.scalar_is_what_stands.Goals as goal

pub returns-clause-u16 : goal.returns-clause-u16
returns-clause-u16 c = reads_u16

pub returns-clause-u32 : goal.returns-clause-u32
returns-clause-u32 c = reads_u32

pub returns-clause-u64 : goal.returns-clause-u64
returns-clause-u64 c = reads_u64

pub returns-clause-u128 : goal.returns-clause-u128
returns-clause-u128 c = reads_u128

pub returns-clause-i32 : goal.returns-clause-i32
returns-clause-i32 c = reads_i32

pub returns-clause-boolean : goal.returns-clause-boolean
returns-clause-boolean c = reads_bool

pub returns-clause-double : goal.returns-clause-double
returns-clause-double c = reads_double

pub returns-clause-float : goal.returns-clause-float
returns-clause-float c = reads_float

pub returns-clause-text : goal.returns-clause-text
returns-clause-text c = reads_text

pub returns-clause-bytes : goal.returns-clause-bytes
returns-clause-bytes c = reads_bytes
