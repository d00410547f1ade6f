-- Inputs as they are used: their paths, their derivations and their hashes.
use Rattle.std.proofs.Common.{◌≡◌, ◌∙◌, ℕ, ◌+◌, ◌<◌, List, [], ◌∷◌, ◌++◌, length, take, get_or, refl, sym, subst, Some, Ok, Err, Result, rules}
use Rattle.std.specs.Prelude.{All, Contains, slice_get}
use Rattle.std.specs.List.{AllZip}
use Rattle.std.proofs.lemmas.List.{length-map, take_more}
use Rattle.std.proofs.lemmas.List.Elements.{All-contains}
use Rattle.std.proofs.lemmas.Option.{same_Some, slice_get_read}
use Rattle.drv_graph.specs.Expected.{drv_name_of}
use Rattle.drv_graph.specs.Nodes.{Node, AreHashes, IsHashBy, inputs_of, paths_of}
use Rattle.drv_graph.specs.Nodes.AreHashes.{no_hashes, one_more_hash}
use Rattle.drv_graph.specs.Outputs.{IsOutputsCheck, IsThePath}
use Rattle.drv_graph.specs.Plans.{AreDrvsOf, AreNumbers, MayAnswer}
use Rattle.drv_graph.specs.PlanNodes.{AreKept, HasHash, IsPlanNode, node_of, nodes_of}
use Rattle.drv_graph.specs.private.UsedInputs.{drvs_of_uses, hashes_of, paths_of_uses as used_paths_of}
use Rattle.drv_graph.specs.private.Walks.{IsLeavingFault, IsOutputFaultAt, IsUsed, visited}
use Rattle.drv_graph.specs.declared.fault.GraphFault.{GraphFault}
use Rattle.drv_graph.specs.declared.fault.GraphFault.TheVariants.{NoMemory, At, Draft, Name}
use Rattle.drv_graph.specs.declared.fault.OutputFault.{OutputFault}
use Rattle.drv_graph.specs.declared.walks.walk_state.Visit.{Visit}
use Rattle.drv_graph.specs.declared.kinds.Kind.{Kind}
use Rattle.drv_graph.specs.declared.plans.node.PlanNode.{PlanNode}
use Rattle.drv_graph.specs.declared.outputs.output_checks.UsedInput.{UsedInput}
use Rattle.drv_graph.proofs.Numbers.{first_number, later_numbers, numbers_within}
use Rattle.nix_names.proofs.Lists.{Contains-from_get, Contains-map, get_mapped}
use Rattle.drv_graph.specs.declared.profile.Profile.{Profile}

-- the path of the node that is used is the one with its number
used_path : (kept : List PlanNode) (n : ℕ) (u : UsedInput) (p : List ℕ) → IsUsed kept n u
    → slice_get (paths_of (nodes_of kept)) n ≡ Some p → u.path.now ≡ p
used_path kept n u p used is =
    let at : slice_get (nodes_of kept) n ≡ Some (node_of used.node) =
    get_mapped node_of _ n _ used.is_node in
    let path : slice_get (paths_of (nodes_of kept)) n
    ≡ Some used.node.path = get_mapped (λ (m : Node). m.path) _ n
    _ at in
    used.path ∙ same_Some used.node.path p (sym path ∙ is)

used_has : (kept : List PlanNode) (n : ℕ) (u : UsedInput) → IsUsed kept n u
    → Contains (nodes_of kept) (record { path = u.path.now; drv = u.drv.now })
used_has kept n u used =
    let there = Contains-map node_of _ _
    (Contains-from_get _ n _ used.is_node) in
    let same : ◌≡◌ {A = Node} (node_of used.node) (record { path = u.path.now; drv = u.drv.now }) =
    cc (used.path, used.drv) in
    subst (Contains (nodes_of kept)) same there

-- the paths that are used are those of the inputs
pub used_paths : (kept : List PlanNode) (ns : List ℕ) (us : List UsedInput) (ps : List (List ℕ))
    → AllZip (IsUsed kept) ns us → AreNumbers (nodes_of kept) ns ps → used_paths_of us ≡ ps
used_paths kept [] [] [] zip e = refl
used_paths kept [] [] (p ∷ ps) zip e = absurd cc
used_paths kept [] (u ∷ us) ps zip e = absurd zip
used_paths kept (n ∷ ns) [] ps zip e = absurd zip
used_paths kept (n ∷ ns) (u ∷ us) [] zip e = absurd cc
used_paths kept (n ∷ ns) (u ∷ us) (p ∷ ps) zip e =
    search (
      rules,
      used_path,
      first_number,
      later_numbers,
      used_paths kept ns us ps zip.1 (later_numbers (nodes_of kept) n ns p ps e),
    )

-- the derivations that are used are those of the inputs
pub used_drvs : (kept : List PlanNode) (ns : List ℕ) (us : List UsedInput)
    → AllZip (IsUsed kept) ns us → AreDrvsOf (nodes_of kept) (used_paths_of us) (drvs_of_uses us)
used_drvs kept [] [] zip = tt
used_drvs kept [] (u ∷ us) zip = absurd zip
used_drvs kept (n ∷ ns) [] zip = absurd zip
used_drvs kept (n ∷ ns) (u ∷ us) zip = (used_has kept n u zip.0, used_drvs kept ns us zip.1)

-- the hashes that are used are those of the inputs
pub used_hashes : (kept : List PlanNode) (ns : List ℕ) (us : List UsedInput) → AreKept kept
    → AllZip (IsUsed kept) ns us → AreHashes (nodes_of kept) (used_paths_of us) (hashes_of us)
used_hashes kept [] [] right zip = no_hashes
used_hashes kept [] (u ∷ us) right zip = absurd zip
used_hashes kept (n ∷ ns) [] right zip = absurd zip
used_hashes kept (n ∷ ns) (u ∷ us) right zip =
    let used = zip.0 in
    let node = used.node in
    let here = Contains-from_get _ n _ used.is_node in
    let own : IsPlanNode (nodes_of kept) node =
    All-contains (IsPlanNode (nodes_of kept)) kept node right
    here in
    let rest = used_hashes kept ns us right zip.1 in
    let one = one_more_hash (node_of node) node.kind own.has_hash.of_inputs node.hash
    (used_paths_of us) (hashes_of us) (Contains-map node_of _ _ here) own.has_kind
    own.has_hash.are_hashes own.has_hash.is_hash rest in
    subst (λ path. AreHashes (nodes_of kept) (path ∷ used_paths_of us) (u.hash ∷ hashes_of us))
    (sym used.path)
    (subst (λ hash. AreHashes (nodes_of kept) (node.path ∷ used_paths_of us) (hash ∷ hashes_of us))
    (sym used.hash) one)

zip_push : {A B : Type 0} (R : A → B → Type 0) (xs : List A) (ys : List B) (x : A) (y : B)
    → AllZip R xs ys → R x y → AllZip R (xs ++ x ∷ []) (ys ++ y ∷ [])
zip_push R [] [] x y zip one = (one, tt)
zip_push R [] (b ∷ ys) x y zip one = absurd zip
zip_push R (a ∷ xs) [] x y zip one = absurd zip
zip_push R (a ∷ xs) (b ∷ ys) x y zip one = (zip.0, zip_push R xs ys x y zip.1 one)

-- one more input that is used
pub used_more : (kept : List PlanNode) (numbers : List ℕ) (i : ℕ) (node : PlanNode)
    (us : List UsedInput) (one : UsedInput) → i < length numbers
    → All (λ n. n < length kept) numbers → node ≡ get_or kept (get_or numbers i 0) node
    → one.path.now ≡ node.path → one.drv.now ≡ node.drv → one.hash ≡ node.hash
    → AllZip (IsUsed kept) (take i numbers) us
    → AllZip (IsUsed kept) (take (i + 1) numbers) (us ++ one ∷ [])
used_more kept numbers i node us one lt within is path drv hash zip =
    let n = get_or numbers i 0 in
    let below : n < length kept = within i 0 lt in
    subst (λ ns. AllZip (IsUsed kept) ns (us ++ one ∷ [])) (sym (take_more _ i 0 lt))
    (zip_push (IsUsed kept) _ _ n _ zip
    (record {
      node = node;
      is_node = slice_get_read _ _ n _ refl below is;
      path = path;
      drv = drv;
      hash = hash;
    }))

-- numbers of nodes are numbers of what is kept
pub kept_within : (kept : List PlanNode) (ns : List ℕ) (ps : List (List ℕ))
    → AreNumbers (nodes_of kept) ns ps → All (λ n. n < length kept) ns
kept_within kept ns ps e k d lt = search (rules, numbers_within, length-map)

hashes_are : (kept : List PlanNode) (visit : Visit) (us : List UsedInput) → AreKept kept
    → AreNumbers (nodes_of kept) visit.numbers.items (inputs_of visit.drv)
    → AllZip (IsUsed kept) visit.numbers.items us
    → AreHashes (nodes_of kept) (inputs_of visit.drv) (hashes_of us)
hashes_are kept visit us right numbers zip = search (rules, used_paths, used_hashes)

-- what the check of the outputs of an open derivation answers
pub answer_is :
    {profile : Profile} (dir : List ℕ) (kept : List PlanNode) (visit : Visit)
    (us given : List UsedInput)
    (name : List ℕ) (answer : Result Kind OutputFault) →
    AreKept kept →
    AreNumbers (nodes_of kept) visit.numbers.items (inputs_of visit.drv) →
    AllZip (IsUsed kept) visit.numbers.items us →
    name ≡ drv_name_of visit.path →
    given ≡ us →
    IsOutputsCheck IsThePath profile dir name visit.drv (drvs_of_uses given)
    (hashes_of given) answer →
    MayAnswer profile dir (nodes_of kept) (visited visit) answer
answer_is {profile} dir kept visit us given name answer right numbers zip named same checked =
    record {
      used = drvs_of_uses us;
      hashes = hashes_of us;
      are_used = subst (λ (ps : List (List ℕ)). AreDrvsOf (nodes_of kept) ps (drvs_of_uses us))
          (used_paths _ _ _ _ zip numbers) (used_drvs _ _ _ zip);
      are_hashes = hashes_are kept visit us right numbers zip;
      check = subst
          (λ (n : List ℕ). IsOutputsCheck IsThePath profile dir n visit.drv (drvs_of_uses us)
          (hashes_of us) answer) named
          (subst
          (λ (gs : List UsedInput). IsOutputsCheck IsThePath profile dir name visit.drv
          (drvs_of_uses gs) (hashes_of gs) answer) same checked);
    }

-- what the check of the outputs answers where it finds nothing wrong
pub check_right :
    {profile : Profile} (dir : List ℕ) (kept : List PlanNode) (visit : Visit)
    (us given hashed : List UsedInput)
    (name : List ℕ) (kind : Kind) (hash : List ℕ) →
    AreKept kept →
    AreNumbers (nodes_of kept) visit.numbers.items (inputs_of visit.drv) →
    AllZip (IsUsed kept) visit.numbers.items us →
    name ≡ drv_name_of visit.path →
    given ≡ us →
    IsOutputsCheck IsThePath profile dir name visit.drv (drvs_of_uses given) (hashes_of given)
    (Ok kind) →
    hashed ≡ us →
    IsHashBy kind visit.drv (hashes_of hashed) hash →
    MayAnswer profile dir (nodes_of kept) (visited visit) (Ok kind)
    × HasHash (nodes_of kept) visit.drv kind hash
check_right dir kept visit us given hashed name kind hash right numbers zip named same checked
    same_too hash_is = (
      answer_is _ _ visit _ _ _ _ right numbers zip named same checked,
      record {
        of_inputs = hashes_of us;
        are_hashes = hashes_are _ visit _ right numbers zip;
        is_hash = subst (λ l. IsHashBy kind visit.drv (hashes_of l) hash) same_too hash_is;
      },
    )

-- what it answers where it finds something wrong
pub check_wrong :
    (profile : Profile) (dir : List ℕ) (kept : List PlanNode) (visit : Visit)
    (us given : List UsedInput)
    (name : List ℕ) (fault : OutputFault) (answer : GraphFault) →
    AreKept kept →
    AreNumbers (nodes_of kept) visit.numbers.items (inputs_of visit.drv) →
    AllZip (IsUsed kept) visit.numbers.items us →
    name ≡ drv_name_of visit.path →
    given ≡ us →
    IsOutputsCheck IsThePath profile dir name visit.drv (drvs_of_uses given) (hashes_of given)
    (Err fault) →
    IsOutputFaultAt visit.path fault answer →
    IsLeavingFault profile dir kept visit answer
check_wrong profile dir kept visit us given name fault NoMemory right numbers zip named same
    checked at = tt
check_wrong profile dir kept visit us given name fault
    (At path found) right numbers zip named same checked
    at =
    subst (λ f. IsLeavingFault profile dir kept visit (At path f)) (sym at.1) (
      at.0,
      at.2,
      answer_is dir kept visit us given name (Err fault) right numbers zip named same
          checked,
    )
check_wrong profile dir kept visit us given name fault
    (Draft found) right numbers zip named same checked
    at = absurd at
check_wrong profile dir kept visit us given name fault Name right numbers zip named same checked at
    =
    absurd at
