-- A value that was read nests no deeper than its text may.
use Rattle.std.proofs.Common.{◌≡◌, ℕ, ◌≤◌, List, [], ◌∷◌, Option, Some, None, option_map, option_and_then, Ordering, Less, Equal, Greater, refl, subst, arith}
use Rattle.std.specs.Prelude.{⊤}
use Rattle.std.specs.Ordering.{match_ordering}
use Rattle.json.specs.Token.{Token}
use Rattle.json.specs.Lex.{tokens}
use Rattle.json.specs.Json as json
use Rattle.json.specs.Tree as tree
use Rattle.json.proofs.Nesting.{value-depth}
use Rattle.serde_json.specs.Data.{Data, number, array, object, item, Members, no_members, member, put, depth, items_depth, members_depth}
use Rattle.structured_attrs.specs.Numerals.{number_of}
use Rattle.structured_attrs.specs.Reading.{data_of, items_of, members_of, max_depth, read}

abbrev AtMost : {A : Type 0} → (A → ℕ) → ℕ → Option A → Type 0
AtMost f n None = ⊤
AtMost f n (Some a) = f a ≤ n

AtMost-map : {A B : Type 0} (f : A → ℕ) (g : B → ℕ) (m n : ℕ) (h : A → B) → ((a : A) → f a ≤ m → g (h a) ≤ n) → (o : Option A) → AtMost f m o → AtMost g n (option_map h o)
AtMost-map f g m n h k None x = tt
AtMost-map f g m n h k (Some a) x = k a x

AtMost-and_then : {A B : Type 0} (f : A → ℕ) (g : B → ℕ) (m n : ℕ) (h : A → Option B) → ((a : A) → f a ≤ m → AtMost g n (h a)) → (o : Option A) → AtMost f m o → AtMost g n (option_and_then h o)
AtMost-and_then f g m n h k None x = tt
AtMost-and_then f g m n h k (Some a) x = k a x

flat : {A : Type 0} (o : Option A) → AtMost (λ _. 0) 0 o
flat None = tt
flat (Some a) = omega arith

members_depth-match_ordering : (o : Ordering) (a b c : Members) (n : ℕ) → members_depth a ≤ n → members_depth b ≤ n → members_depth c ≤ n → members_depth (match_ordering o a b c) ≤ n
members_depth-match_ordering Less a b c n p q r = p
members_depth-match_ordering Equal a b c n p q r = q
members_depth-match_ordering Greater a b c n p q r = r

pub members_depth-put : (k : List ℕ) (d : Data) (ms : Members) (n : ℕ) → depth d ≤ n → members_depth ms ≤ n → members_depth (put k d ms) ≤ n
members_depth-put k d no_members n p q = omega arith
members_depth-put k d (member l e ms) n p q =
    members_depth-match_ordering _ (member k d (member l e ms)) (member l d ms) (member l e (put k d ms)) n (omega arith) (omega arith) (omega (arith, members_depth-put k d ms n p (omega arith)))

mutual
  depth-data_of : (j : json.Json) (n : ℕ) → tree.depth j ≤ n → AtMost depth n (data_of j)
  depth-data_of json.null n h = omega arith
  depth-data_of (json.boolean b) n h = omega arith
  depth-data_of (json.number s) n h = AtMost-map (λ _. 0) depth 0 n number (λ a x. omega arith) (number_of s) (flat _)
  depth-data_of (json.string s) n h = omega arith
  depth-data_of (json.array js) n h = AtMost-map items_depth depth (tree.items_depth js) n array (λ a x. omega arith) _ (depth-items_of js _ (omega arith))
  depth-data_of (json.object ms) n h = AtMost-map members_depth depth (tree.members_depth ms) n object (λ a x. omega arith) _ (depth-members_of ms no_members _ (omega arith) (omega arith))

  depth-items_of : (js : json.Items) (n : ℕ) → tree.items_depth js ≤ n → AtMost items_depth n (items_of js)
  depth-items_of json.no_items n h = omega arith
  depth-items_of (json.item j js) n h =
      AtMost-and_then depth items_depth n n _ (λ d x. AtMost-map items_depth items_depth n n (item d) (λ ds y. omega arith) _ (depth-items_of js n (omega arith))) _ (depth-data_of j n (omega arith))

  depth-members_of : (ms : json.Members) (found : Members) (n : ℕ) → tree.members_depth ms ≤ n → members_depth found ≤ n → AtMost members_depth n (members_of ms found)
  depth-members_of json.no_members found n h k = k
  depth-members_of (json.member name j ms) found n h k =
      AtMost-and_then depth members_depth n n _ (λ d x. depth-members_of ms (put name d found) n (omega arith) (members_depth-put name d found n x k)) _ (depth-data_of j n (omega arith))

last_within : (o : Option (json.Json × List Token)) (n : ℕ) → ((j : json.Json) (r : List Token) → o ≡ Some (j, r) → tree.depth j ≤ n) → AtMost tree.depth n (option_and_then (λ p. json.if_last p.0 p.1) o)
last_within None n h = tt
last_within (Some (j, [])) n h = h j [] refl
last_within (Some (j, t ∷ r)) n h = tt

pub depth-read : (text : List ℕ) (d : Data) → read text ≡ Some d → depth d ≤ max_depth
depth-read text d e = subst (AtMost depth max_depth) e (AtMost-and_then tree.depth depth max_depth max_depth data_of (λ j x. depth-data_of j max_depth x) _ (last_within _ max_depth (λ j r. value-depth max_depth (tokens text) r j)))
