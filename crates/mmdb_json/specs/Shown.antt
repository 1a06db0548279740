-- Which JSON shows a tree of a file ("Data Field Format" of the MaxMind DB File Format Specification 2.0): a text is
-- a string, bytes are a string of base64, a number is a number, and a map is an object, with its keys in the
-- file's order, repeated ones too. The digits of a double or a float read back as it, and no 0 that could be left
-- out ends them; one that is no number, or infinite, is null. A pointer shows what it leads to.
use Rattle.mmdb_format.specs.Contents as contents
use Rattle.mmdb_format.specs.Unfolding as unfolding_words
use Rattle.std.specs.Prelude.{◌≡◌, ℕ, List, [], ◌++◌, Some, decimal, from_bits}
use Rattle.std.specs.Bool.{MatchBool}
use Rattle.std.specs.Float.{Format, binary32, binary64, float_is_finite}
use Rattle.std.specs.Fmt.{signed_decimal}
use Rattle.fast_float.specs.Parse.{parse_float}
use Rattle.ryu.specs.Plain.{IsLaidOutNumber}
use Rattle.base64.specs.GeneralPurpose.{encode_of}
use Rattle.base64.specs.Engines.{standard}
use Rattle.json.specs.Token.{Token}
use Rattle.json.specs.Json.{Json, null, boolean, number, string, array, object, Items, no_items, item, Members, no_members, member}
use Rattle.json.specs.Tree.{json_tokens}
use Rattle.mmdb_format.specs.Contents.{Scalar, text, bytes, signed32, number16, number32, number64, number128, double_bits, float_bits}
use Rattle.mmdb_format.specs.Unfolding.{Tree, scalar, table, pointer, Trees, no_trees, tree, Pairs, no_pairs, pair}

-- digits that read back as the number; there is an exponent only where more than a given number of digits would come before the
-- point, or more than a given number of zeros after it
abbrev pub ShowsFloat : Format → ℕ → ℕ → ℕ → Json → Type 0
ShowsFloat f whole_digits leading_zeros bits j =
    MatchBool (float_is_finite (from_bits f bits))
    ((digits : List ℕ) × (j ≡ number digits) × (parse_float f digits ≡ Some (from_bits f bits)) × IsLaidOutNumber whole_digits leading_zeros digits)
    (j ≡ null)

abbrev pub ShowsScalar : Scalar → Json → Type 0
ShowsScalar (text x) j = j ≡ string x
ShowsScalar (bytes x) j = j ≡ string (encode_of standard x)
ShowsScalar (contents.boolean b) j = j ≡ boolean b
ShowsScalar (signed32 z) j = j ≡ number (signed_decimal z)
ShowsScalar (number16 n) j = j ≡ number (decimal n)
ShowsScalar (number32 n) j = j ≡ number (decimal n)
ShowsScalar (number64 n) j = j ≡ number (decimal n)
ShowsScalar (number128 n) j = j ≡ number (decimal n)
ShowsScalar (double_bits n) j = ShowsFloat binary64 16 4 n j
ShowsScalar (float_bits n) j = ShowsFloat binary32 13 5 n j

-- the bytes of a key, directly or through pointers
abbrev pub key_bytes : Tree → List ℕ
key_bytes (scalar (text x)) = x
key_bytes (pointer a t) = key_bytes t
key_bytes _ = []

abbrev mutual
  pub Shows : Tree → Json → Type 0
  Shows (scalar c) j = ShowsScalar c j
  Shows (unfolding_words.array ts) j = (js : Items) × (j ≡ array js) × AllShow ts js
  Shows (table ps) j = (ms : Members) × (j ≡ object ms) × PairsShow ps ms
  Shows (pointer a t) j = Shows t j

  pub AllShow : Trees → Items → Type 0
  AllShow no_trees js = js ≡ no_items
  AllShow (tree t ts) js = (j : Json) × (rest : Items) × (js ≡ item j rest) × Shows t j × AllShow ts rest

  pub PairsShow : Pairs → Members → Type 0
  PairsShow no_pairs ms = ms ≡ no_members
  PairsShow (pair k v ps) ms = (j : Json) × (rest : Members) × (ms ≡ member (key_bytes k) j rest) × Shows v j × PairsShow ps rest

-- tokens grow by those of JSON that shows the tree
abbrev pub WritesShown : Tree → List Token → List Token → Type 0
WritesShown t old new = (j : Json) × Shows t j × (new ≡ old ++ json_tokens j)
