use Rattle.std.proofs.Common.{◌≡◌, ◌∙◌, Some, List, [], ◌∷◌, ◌++◌, ap, map, refl, sym}
use Rattle.std.specs.Prelude.{reverse, slice_get, string_bytes}
use Rattle.std.proofs.lemmas.List.{map-append, reverse-append}
use Rattle.std.specs.declared.alloc.Global.{Global}
use Rattle.std.specs.declared.string.String.{String}
use Rattle.nix_archive.specs.Trees.{Bytes}
use Rattle.process_build.specs.Making.{outermost}
use Rattle.process_build.proofs.tree_maker.maker.TreeMaker.outermost.Goals as goal

outermost_last : (path last : Bytes) (around : List Bytes) → outermost path (around ++ last ∷ []) ≡ last
outermost_last path last [] = refl
outermost_last path last (folder ∷ around) = outermost_last folder last around

outermost_first : (path : Bytes) (first : String Global) (around : List (String Global))
    → Some first ≡ slice_get around 0
    → string_bytes first ≡ outermost path (map string_bytes (reverse around))
outermost_first path first [] h = absurd cc
outermost_first path first (x ∷ xs) h =
    let is : first ≡ x = cc in
    ap string_bytes is ∙ sym (outermost_last path (string_bytes x) (map string_bytes (reverse xs)))
    ∙ ap (outermost path) (sym (map-append string_bytes (reverse xs) (x ∷ [])))
    ∙ ap (λ l. outermost path (map string_bytes l)) (sym (reverse-append (x ∷ []) xs))

pub returns-in-Some : goal.returns-in-Some
returns-in-Some g c =
    c.as_str.ensures.value ∙ outermost_first _ _ _ (c.in-Some.ensures.value
    ∙ ap (λ l. slice_get l 0) c.deref.ensures.value)
