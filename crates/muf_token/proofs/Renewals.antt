-- What the source says, and an `$include`, in layers: both do what the definition says to what names mean.
use Rattle.std.proofs.Common.{◌≡◌, ℕ, ◌+◌, ◌≤◌, Bool, true, false, cond, is_some, List, [], ◌++◌, ℤ, Option, Some, None, Result, Ok, Err, OnOk, refl, ap, sym, subst, ◌∙◌, arith, append-nil, true≢false}
use Rattle.std.proofs.lemmas.Int.{ints}
use Rattle.std.specs.Str.{bytes_eq}
use Rattle.std.specs.Ordering.{int_eq}
use Rattle.std.specs.List.{IsDistinct}
use Rattle.std.specs.Map.{lookup, keys_of, remove_entry}
use Rattle.muck_laws.proofs.Found.{lookup_equal}
use Rattle.muck_laws.proofs.Numbers.{int_equivalence}
use Rattle.muck_model.specs.declared.dbref.Dbref.{Dbref}
use Rattle.muf_token.specs.declared.includes.Definition.{Definition}
use Rattle.muf_token.specs.declared.piece.Piece.{Piece}
use Rattle.muf_token.specs.declared.place.Place.{Place}
use Rattle.muf_token.specs.declared.reader.Reader.{Reader}
use Rattle.muf_token.specs.declared.layers.Entry.{Entry}
use Rattle.muf_token.specs.declared.layers.Layers.{Layers}
use Rattle.muf_token.specs.Numbers.{token_kind}
use Rattle.muf_token.specs.Output.{and_then}
use Rattle.muf_token.specs.Directives.{Spot, Name, name_behind}
use Rattle.muf_token.specs.Source.{SourceState, with_definition, undef_at, included_object, with_all, included, include_at}
use Rattle.muf_token.specs.inner.Spots.{spot_of}
use Rattle.muf_token.specs.inner.Readers.{state_of, LeadsOn, SayTheSame}
use Rattle.muf_token.specs.inner.Layers.{newest, lent_to, own_of, mean_of, entry_at, own, lents, stamp_at, meant, told, lents_of, of_object, time_of, IsTimed, HasAll, HasBy, AreTaken, LendsOn, IsReady}
use Rattle.muf_token.proofs.Meanings.{lookup_inserted, distinct_inserted, lookup_removed, distinct_removed}
use Rattle.muf_token.proofs.Alike.{words_alike}
use Rattle.muf_token.proofs.Takings.{given, lookup_given, distinct_with_all, leads_on, include_is}
use Rattle.muf_token.proofs.Layered.{newest_own, told_lookup, told_distinct, same_behind, last_of, last_given, raised, of_append, of_own, of_other}

meant_told : (m : Layers) (q : List ℕ) → IsTimed m → lookup (bytes_eq q) (told m) ≡ meant m q
meant_told m q h = told_lookup m.stamps.entries m.names.entries q h.one

-- ---- an entry

-- one of a name that is taken out and put back
pub put_back : (name q : List ℕ) (e old mid new : Option Entry) → mid ≡ cond (bytes_eq name q) None old → new ≡ cond (bytes_eq name q) e mid → new ≡ cond (bytes_eq name q) e old
put_back name q e old mid new h k = k ∙ ap (cond (bytes_eq name q) e) h ∙ by (bytes_eq name q)
  where
    by : (b : Bool) → cond b e (cond b None old) ≡ cond b e old
    by true = refl
    by false = refl

-- what the source says of a name, from now on
module _ (old new : Layers) (name : List ℕ) (e : Entry) (h : IsTimed old) (stamps : new.stamps.entries ≡ old.stamps.entries) (at : (q : List ℕ) → entry_at new q ≡ cond (bytes_eq name q) (Some e) (entry_at old q)) (lent : e.lent ≡ lents old name)
    (stamp : e.stamp ≡ old.clock + 1) where
  pub said_mean : (q : List ℕ) → meant new q ≡ cond (bytes_eq name q) e.body (meant old q)
  said_mean q = ap (λ s. mean_of s (entry_at new q)) stamps ∙ ap (mean_of old.stamps.entries) (at q) ∙ by (bytes_eq name q)
    where
      by : (b : Bool) → mean_of old.stamps.entries (cond b (Some e) (entry_at old q)) ≡ cond b e.body (meant old q)
      by true = ap (λ t. t.1) (newest_own old.stamps.entries e.lent (e.stamp, e.body) (λ d. omega (arith, h.times d, stamp)))
      by false = refl

  said_lents : (q : List ℕ) → lents new q ≡ lents old q
  said_lents q = ap lent_to (at q) ∙ by (bytes_eq name q) refl
    where
      by : (b : Bool) → bytes_eq name q ≡ b → lent_to (cond b (Some e) (entry_at old q)) ≡ lents old q
      by true k = lent ∙ ap lent_to (lookup_equal old.names.entries name q k)
      by false k = refl

  pub said_kept : new.clock ≡ old.clock + 1 → IsDistinct bytes_eq (keys_of new.names.entries) → LendsOn old new
  said_kept clock one = record {
    timed = record {
      one = one;
      own_times = λ q. subst (λ o. (own_of o).0 ≤ new.clock) (sym (at q)) (by q (bytes_eq name q));
      times = λ d. subst (λ s. time_of (lookup (int_eq d) s) ≤ new.clock) (sym stamps) (omega (arith, h.times d, clock));
    };
    same = said_lents;
    stamps = stamps;
  }
    where
      by : (q : List ℕ) (b : Bool) → (own_of (cond b (Some e) (entry_at old q))).0 ≤ new.clock
      by q true = omega (arith, stamp, clock)
      by q false = omega (arith, h.own_times q, clock)

-- ---- what the source says

pub defined_alike : (old new : Reader) (name : List ℕ) (body : List Piece) → IsTimed old.definitions → IsTimed new.definitions
    → ((q : List ℕ) → meant new.definitions q ≡ cond (bytes_eq name q) (Some body) (meant old.definitions q)) → new.branches ≡ old.branches → new.out ≡ old.out
    → SayTheSame (with_definition name body (state_of old)) (state_of new)
defined_alike old new name body h k mean branches out lent spot = words_alike lent _ _ spot (record {
  same = record {
    mean = λ q. lookup_inserted (told old.definitions) name body q ∙ ap (λ o. cond (bytes_eq name q) (Some body) o) (meant_told old.definitions q h) ∙ sym (mean q) ∙ sym (meant_told new.definitions q k);
    one = distinct_inserted (told old.definitions) name body (told_distinct _ _ h.one);
    other = told_distinct _ _ k.one;
  };
  branches = sym branches;
  out = sym out;
})

pub defined_by : {E : Type 0} (old new : Reader) (name : List ℕ) (body : List Piece) (r : Result (Unit {0}) E) → IsTimed old.definitions
    → OnOk r ((q : List ℕ) → meant new.definitions q ≡ cond (bytes_eq name q) (Some body) (meant old.definitions q)) → OnOk r (LendsOn old.definitions new.definitions) → new.branches ≡ old.branches → new.out ≡ old.out
    → OnOk r (SayTheSame (with_definition name body (state_of old)) (state_of new))
defined_by old new name body (Ok x) h mean kept branches out = defined_alike old new name body h kept.timed mean branches out
defined_by old new name body (Err e) h mean kept branches out = tt

pub undone : (line : ℕ) (old new : Reader) (spot : Spot) (n : Name) (place : Place) → name_behind line spot ≡ Ok n → spot_of place ≡ n.behind → IsTimed old.definitions → IsTimed new.definitions
    → ((q : List ℕ) → meant new.definitions q ≡ cond (bytes_eq n.name q) None (meant old.definitions q)) → new.branches ≡ old.branches → new.out ≡ old.out
    → LeadsOn (undef_at line (state_of old) spot) (Ok place) (state_of new)
undone line old new spot n place at behind h k mean branches out =
    let s : SourceState = state_of old in
    let after : SourceState = record s { definitions = remove_entry (bytes_eq n.name) s.definitions } in (
      after,
      ap (λ r. and_then r (λ m. Ok (record s { definitions = remove_entry (bytes_eq m.name) s.definitions }, m.behind))) at ∙ ap (λ b. Ok (after, b)) (sym behind),
      λ lent there. words_alike lent after (state_of new) there (record {
        same = record {
          mean = λ q. lookup_removed s.definitions n.name q (told_distinct _ _ h.one) ∙ ap (λ o. cond (bytes_eq n.name q) None o) (meant_told old.definitions q h) ∙ sym (mean q) ∙ sym (meant_told new.definitions q k);
          one = distinct_removed s.definitions (bytes_eq n.name) (told_distinct _ _ h.one);
          other = told_distinct _ _ k.one;
        };
        branches = sym branches;
        out = sym out;
      }),
    )

-- ---- what objects lend

has_on : (lent : Dbref → Option (List Definition)) (k : Dbref) (o : Option ℕ) (old new : Layers) → ((q : List ℕ) → lents new q ≡ lents old q) → HasBy lent k o old → HasBy lent k o new
has_on lent k None old new e h = λ q. ap (of_object k.0) (e q) ∙ h q
has_on lent k (Some t) old new e h = (h.0, h.1, λ q. ap (of_object k.0) (e q) ∙ h.2 q)

pub kept_on : (lent : Dbref → Option (List Definition)) (old new : Layers) → AreTaken lent old → LendsOn old new → AreTaken lent new
kept_on lent old new h k = record {
  timed = k.timed;
  taken = λ d. subst (λ o. HasBy lent d o new) (ap (lookup (int_eq d.0)) (sym k.stamps)) (has_on lent d (stamp_at old d.0) old new k.same (h.taken d));
}

pub kept_same : (lent : Dbref → Option (List Definition)) (old new : Layers) → AreTaken lent old → new ≡ old → AreTaken lent new
kept_same lent old new h e = subst (AreTaken lent) (sym e) h

pub nothing_taken : (m : Layers) → IsTimed m → ((d : ℤ) → stamp_at m d ≡ None) → ((q : List ℕ) → lents m q ≡ []) → (lent : Dbref → Option (List Definition)) → AreTaken lent m
nothing_taken m h never bare lent = record { timed = h; taken = λ d. subst (λ o. HasBy lent d o m) (sym (never d.0)) (λ q. ap (of_object d.0) (bare q)) }

-- ---- the first include

pub ready_first : (lent : Dbref → Option (List Definition)) (d : Dbref) (list : List Definition) (old new : Layers) → lent d ≡ Some list → AreTaken lent old → is_some (stamp_at old d.0) ≡ false
    → ((q : List ℕ) → lents new q ≡ lents old q ++ lents_of d.0 list q) → ((q : List ℕ) → own new q ≡ own old q) → IsDistinct bytes_eq (keys_of new.names.entries)
    → new.stamps.entries ≡ old.stamps.entries → new.clock ≡ old.clock → IsReady lent d old new
ready_first lent d list old new l h unknown more mine one stamps clock = record {
  timed = record {
    one = one;
    own_times = λ q. subst (λ t. t.0 ≤ new.clock) (sym (mine q)) (subst (λ c. (own old q).0 ≤ c) (sym clock) (h.timed.own_times q));
    times = λ k. subst (λ o. time_of o ≤ new.clock) (sym (at k)) (subst (λ c. time_of (stamp_at old k) ≤ c) (sym clock) (h.timed.times k));
  };
  all = (list, l, λ q. ap (of_object d.0) (more q) ∙ of_append d.0 (lents old q) (lents_of d.0 list q) ∙ ap (λ xs. xs ++ of_object d.0 (lents_of d.0 list q)) (none q) ∙ of_own d.0 list q);
  others = λ k e. subst (λ o. HasBy lent k o new) (sym (at k.0)) (other k e (stamp_at old k.0) (h.taken k));
  mean = λ q.
      ap (λ s. (newest s (lents new q) (own new q)).1) stamps ∙ ap (λ b. (newest old.stamps.entries (lents new q) b).1) (mine q) ∙ ap (λ ls. (newest old.stamps.entries ls (own old q)).1) (more q)
      ∙ ap (λ t. t.1) (same_behind old.stamps.entries d.0 list q (lents old q) (own old q) missing);
}
  where
    at : (k : ℤ) → stamp_at new k ≡ stamp_at old k
    at k = ap (lookup (int_eq k)) stamps

    absent : (o : Option ℕ) → is_some o ≡ false → o ≡ None
    absent None e = refl
    absent (Some t) e = absurd (true≢false e)

    missing : stamp_at old d.0 ≡ None
    missing = absent (stamp_at old d.0) unknown

    none : (q : List ℕ) → of_object d.0 (lents old q) ≡ []
    none = subst (λ o. HasBy lent d o old) missing (h.taken d)

    beside : (k : Dbref) → int_eq d.0 k.0 ≡ false → (q : List ℕ) → of_object k.0 (lents new q) ≡ of_object k.0 (lents old q)
    beside k e q =
        ap (of_object k.0) (more q) ∙ of_append k.0 (lents old q) (lents_of d.0 list q)
        ∙ ap (λ ys. of_object k.0 (lents old q) ++ ys) (of_other k.0 d.0 list q (int_equivalence.symm k.0 d.0 ∙ e)) ∙ append-nil (of_object k.0 (lents old q))

    other : (k : Dbref) → int_eq d.0 k.0 ≡ false → (o : Option ℕ) → HasBy lent k o old → HasBy lent k o new
    other k e None x = λ q. beside k e q ∙ x q
    other k e (Some t) x = (x.0, x.1, λ q. beside k e q ∙ x.2 q)

-- ---- each include

-- what an object lends counts from now on
pub record IsRenewed (d : ℤ) (old new : Layers) : Type 0 where
  pub names : new.names.entries ≡ old.names.entries
  pub clock : new.clock ≡ old.clock + 1
  pub stamps : (k : ℤ) → stamp_at new k ≡ cond (int_eq d k) (Some (old.clock + 1)) (stamp_at old k)

module _ (lent : Dbref → Option (List Definition)) (d : Dbref) (old mid new : Layers) (ready : IsReady lent d old mid) (now : IsRenewed d.0 mid new) where
  same_lents : (q : List ℕ) → lents new q ≡ lents mid q
  same_lents q = ap (λ es. lent_to (lookup (bytes_eq q) es)) now.names

  same_own : (q : List ℕ) → own new q ≡ own mid q
  same_own q = ap (λ es. own_of (lookup (bytes_eq q) es)) now.names

  renewed_timed : IsTimed new
  renewed_timed = record {
    one = subst (λ es. IsDistinct bytes_eq (keys_of es)) (sym now.names) ready.timed.one;
    own_times = λ q. subst (λ t. t.0 ≤ new.clock) (sym (same_own q)) (subst (λ c. (own mid q).0 ≤ c) (sym now.clock) (omega (arith, ready.timed.own_times q)));
    times = λ k. subst (λ c. time_of (stamp_at new k) ≤ c) (sym now.clock) (subst (λ o. time_of o ≤ mid.clock + 1) (sym (now.stamps k)) (by k (int_eq d.0 k)));
  }
    where
      by : (k : ℤ) (b : Bool) → time_of (cond b (Some (mid.clock + 1)) (stamp_at mid k)) ≤ mid.clock + 1
      by k true = omega arith
      by k false = omega (arith, ready.timed.times k)

  object_same : (k : Dbref) → int_eq d.0 k.0 ≡ true → d ≡ k
  object_same k e = let same : d.0 ≡ k.0 = grind (arith, ints) in ap (λ x. record { 0 = x }) same

  pub renewed_taken : AreTaken lent new
  renewed_taken = record { timed = renewed_timed; taken = λ k. subst (λ o. HasBy lent k o new) (sym (now.stamps k.0)) (by k (int_eq d.0 k.0) refl) }
    where
      by : (k : Dbref) (b : Bool) → int_eq d.0 k.0 ≡ b → HasBy lent k (cond b (Some (mid.clock + 1)) (stamp_at mid k.0)) new
      by k true e = subst (λ x. HasAll lent x new) (object_same k e) (ready.all.0, ready.all.1, λ q. ap (of_object d.0) (same_lents q) ∙ ready.all.2 q)
      by k false e = has_on lent k (stamp_at mid k.0) mid new same_lents (ready.others k e)

  counted : (q : List ℕ) → meant new q ≡ given ready.all.0 q (meant old q)
  counted q =
      ap (λ es. mean_of new.stamps.entries (lookup (bytes_eq q) es)) now.names
      ∙ raised mid.stamps.entries new.stamps.entries d.0 (mid.clock + 1) now.stamps (λ k. omega (arith, ready.timed.times k)) (lents mid q) (own mid q) (omega (arith, ready.timed.own_times q))
      ∙ ap (λ ls. last_of ls (meant mid q)) (ready.all.2 q)
      ∙ last_given d.0 ready.all.0 q (meant mid q)
      ∙ ap (given ready.all.0 q) (ready.mean q)

-- `$include`
pub included_on : (lent : Dbref → Option (List Definition)) (line : ℕ) (old new : Reader) (mid : Layers) (spot : Spot) (n : Name) (d : Dbref) (place : Place) → name_behind line spot ≡ Ok n → spot_of place ≡ n.behind
    → included_object line n (token_kind n.name) ≡ Ok d → AreTaken lent old.definitions → IsReady lent d old.definitions mid → IsRenewed d.0 mid new.definitions → new.branches ≡ old.branches → new.out ≡ old.out
    → LeadsOn (include_at lent line (state_of old) spot) (Ok place) (state_of new)
included_on lent line old new mid spot n d place at behind object h ready now branches out =
    let s : SourceState = state_of old in
    let list : List Definition = ready.all.0 in
    let after : SourceState = record s { definitions = with_all list s.definitions } in
    let timed : IsTimed new.definitions = renewed_timed lent d old.definitions mid new.definitions ready now in (
      after,
      include_is lent line s after spot n d at object (ap (included line s) ready.all.1) ∙ ap (λ b. Ok (after, b)) (sym behind),
      λ any there. words_alike any after (state_of new) there (record {
        same = record {
          mean = λ q. lookup_given list s.definitions q ∙ ap (given list q) (meant_told old.definitions q h.timed) ∙ sym (counted lent d old.definitions mid new.definitions ready now q) ∙ sym (meant_told new.definitions q timed);
          one = distinct_with_all list s.definitions (told_distinct _ _ h.timed.one);
          other = told_distinct _ _ timed.one;
        };
        branches = sym branches;
        out = sym out;
      }),
    )

pub ruleset takings = (leads_on, kept_on, kept_same, nothing_taken)
