-- The modulo hashes of some paths are one, where no two nodes have one path.
use Rattle.std.proofs.Common.{◌≡◌, ℕ, false, List, ◌∷◌, refl, sym, ap, ◌∙◌, rules}
use Rattle.sha2.specs.Sha256.{sha256}
use Rattle.nix_drv.specs.Derivation.{Drv}
use Rattle.drv_graph.specs.GraphLaws.{HaveOneHashEach, HaveOwnPaths}
use Rattle.drv_graph.specs.Kinds.{HasKind}
use Rattle.drv_graph.specs.Nodes.{AreHashes, IsHashBy, Node, inputs_of, no_hashes, one_more_hash}
use Rattle.drv_graph.specs.declared.kinds.Kind.{Kind}
use Rattle.drv_graph.specs.declared.kinds.Kind.TheVariants.{Addressed, Fixed}
use Rattle.drv_graph.proofs.KindAnswers.{one_kind}
use Rattle.drv_graph.proofs.OneText.{one_text}

-- there is one hash by some hashes of the inputs
one_hash : (kind : Kind) (drv : Drv) (hashes : List (List ℕ)) (a b : List ℕ)
    → IsHashBy kind drv hashes a → IsHashBy kind drv hashes b → a ≡ b
one_hash Addressed drv hashes a b (text, is_a, a_is) (other, is_b, b_is) = a_is
    ∙ ap sha256 (one_text drv hashes false text other is_a is_b) ∙ sym b_is
one_hash (Fixed method digest) drv hashes a b (output, only, a_is) (other, only', b_is) =
    search rules

same_hash : (a b : Node) (kind kind' : Kind) (of_a of_b : List (List ℕ)) (hash hash' : List ℕ) → a
    ≡ b → HasKind a.drv kind → HasKind b.drv kind' → of_a ≡ of_b
    → IsHashBy kind a.drv of_a hash → IsHashBy kind' b.drv of_b hash' → hash ≡ hash'
same_hash a b kind kind' of_a of_b hash hash' same is_a is_b inputs by_a by_b =
    search (rules, one_kind, one_hash)

hashes_same : (nodes : List Node) → HaveOwnPaths nodes → (paths hashes : List (List ℕ))
    → AreHashes nodes paths hashes
    → (others hashes' : List (List ℕ)) → AreHashes nodes others hashes' → others ≡ paths → hashes
    ≡ hashes'
hashes_same nodes own paths hashes no_hashes others hashes' no_hashes same = refl
hashes_same nodes own paths hashes no_hashes others hashes'
    (one_more_hash node kind of_inputs hash more hs has is_kind inputs by later) same = absurd cc
hashes_same nodes own paths hashes
    (one_more_hash node kind of_inputs hash more hs has is_kind inputs by later) others hashes'
    no_hashes same = absurd cc
hashes_same nodes own paths hashes
    (one_more_hash node kind of_inputs hash more hs has is_kind inputs by later) others hashes'
    (one_more_hash node' kind' of_inputs' hash' more' hs' has' is_kind' inputs' by' later') same =
    let path : node'.path ≡ node.path = cc in
    let rest : more' ≡ more = cc in
    let one : node ≡ node' = own node node' has has' (sym path) in
    let inner : of_inputs ≡ of_inputs' = hashes_same _ own _ _ inputs
    _ _ inputs' (ap (λ (n : Node). inputs_of n.drv) (sym one)) in
    let first : hash ≡ hash' = same_hash _ _ _ _ _ _ _ _ one
    is_kind is_kind' inner by by' in
    let all : hs ≡ hs' = hashes_same _ own _ _ later _ _ later' rest in
    ap (λ (h : List ℕ). h ∷ hs) first ∙ ap (λ (t : List (List ℕ)). hash' ∷ t) all

pub one_hashes : HaveOneHashEach
one_hashes nodes paths hashes hashes' own are are' = search (rules, hashes_same)
