-- What a list of numbers is in a definition. Where no name of these stands, it is a list of
-- numbers.
use Rattle.std.specs.Prelude.{ℕ, List}

-- some bytes, in order: a text, a file, a value of the environment
abbrev pub Bytes : Type 0
Bytes = List ℕ

-- the text of a store folder
abbrev pub Dir : Type 0
Dir = Bytes

-- the text of a store path
abbrev pub Path : Type 0
Path = Bytes

-- a name: a store path's, an output's, a variable's
abbrev pub Name : Type 0
Name = Bytes

-- the bytes that a hash function gives
abbrev pub Hash : Type 0
Hash = Bytes
