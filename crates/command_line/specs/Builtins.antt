-- The words that give a builtin builder its program, each NAME=PROGRAM (this product's own). The
-- first `=` of a word ends the name.
use Rattle.std.specs.Prelude.{◌≡◌, ◌≢◌, ◌⊎◌, ◌==◌, ℕ, List, All, AllPairs, Contains, map}
use Rattle.std.specs.List.{after_first, before_first}
use Rattle.clap.specs.declared.error.kind.ErrorKind.{ErrorKind}
use Rattle.clap.specs.declared.error.kind.ErrorKind.TheVariants.{ArgumentConflict, ValueValidation}
use Rattle.nix_names.specs.Bytes.{Bytes, Name}
use Rattle.command_line.specs.declared.options.Builtin.{Builtin}

-- the word has a program: it has a `=`
abbrev pub HasProgram : (word : Bytes) → Type 0
HasProgram word = Contains word 61

-- the name in a word, and the program
abbrev pub name_in : (word : Bytes) → Name
name_in word = before_first (λ byte. byte == 61) word

abbrev pub program_in : (word : Bytes) → Bytes
program_in word = after_first (λ byte. byte == 61) word

-- no two of these names are the same
abbrev pub AreApart : List Name → Type 0
AreApart names = AllPairs (λ x y. x ≢ y) names

-- The words give these builders their programs, in their order, and none twice.
pub record AreBuiltins (words : List Bytes) (builtins : List Builtin) : Type 0 where
  pub have_programs : All HasProgram words
  pub apart : AreApart (map name_in words)
  pub names : map (λ b. b.name.now) builtins ≡ map name_in words
  pub programs : map (λ b. b.program.now) builtins ≡ map program_in words

-- The fault of words that don't: one has no program; or each has one, and two have the same name.
abbrev pub IsBuiltinFault : (words : List Bytes) → ErrorKind → Type 0
IsBuiltinFault words kind =
    ((kind ≡ ValueValidation) × ¬ All HasProgram words)
    ⊎ ((kind ≡ ArgumentConflict) × All HasProgram words × ¬ AreApart (map name_in words))
