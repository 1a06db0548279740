-- The kind of error that a fault of a value makes.
use Rattle.mmdb_format.specs.Error.{Kind, OfDatabase, OfDecoding, OfLimit}
use Rattle.mmdb_format.specs.declared.decode_error_kind.DecodeErrorKind.{DecodeErrorKind}
use Rattle.mmdb_format.specs.declared.decode_error_kind.DecodeErrorKind.TheVariants.{EndOfBuffer, SizeOf, PointerSize, KeyTooLong, UnknownType, InvalidUtf8, PointerToPointer, KeyOfType, TooDeep, Cycle, Unexpected, WrongLength, OutOfRange, NotWhole, TooManyValues, TooManyBytes, TooMuchWork}

-- a value of another type than was asked for is a decoding error, one over a limit is a limit's, and
-- all else is a fault of the file
abbrev pub kind_of_fault : DecodeErrorKind → Kind
kind_of_fault EndOfBuffer = OfDatabase
kind_of_fault (SizeOf kind size) = OfDatabase
kind_of_fault (PointerSize size) = OfDatabase
kind_of_fault KeyTooLong = OfDatabase
kind_of_fault (UnknownType number) = OfDatabase
kind_of_fault InvalidUtf8 = OfDatabase
kind_of_fault PointerToPointer = OfDatabase
kind_of_fault (KeyOfType number) = OfDatabase
kind_of_fault TooDeep = OfDatabase
kind_of_fault (Cycle offset) = OfDatabase
kind_of_fault (Unexpected wanted found) = OfDecoding
kind_of_fault (WrongLength wanted found) = OfDecoding
kind_of_fault OutOfRange = OfDecoding
kind_of_fault NotWhole = OfDecoding
kind_of_fault TooManyValues = OfLimit
kind_of_fault TooManyBytes = OfLimit
kind_of_fault TooMuchWork = OfLimit
