-- What is written of some records: those that differ from what is kept of their objects.
use Rattle.std.proofs.Common.{◌≡◌, ◌≤◌, Bool, true, false, cond, not, List, [], ◌∷◌, length, refl, ◌∙◌, ap, subst, arith}
use Rattle.std.specs.Prelude.{All}
use Rattle.std.specs.List.{filter, items_where_true}
use Rattle.std.specs.List.Retain.{ReturnsInTurn, IsFiltered}
use Rattle.std.proofs.lemmas.List.Elements.{All-head, All-tail, All-filter}
use Rattle.std.proofs.lemmas.List.Filters.{length-filter_both}
use Rattle.muck_codec.specs.declared.stored.Stored.{Stored}
use Rattle.muck_codec.specs.inner.Stored.{IsStored}
use Rattle.muck_log.specs.World.{differs, records_written}

pub few : (objects records : List Stored) → length (records_written objects records) ≤ length records
unfolding records_written
few objects records = omega (arith, length-filter_both (differs objects) (λ o. not (differs objects o)) (λ o. refl) records)

pub all_stored : (objects records : List Stored) → All IsStored records → All IsStored (records_written objects records)
unfolding records_written
all_stored objects records all = All-filter (differs objects) IsStored records all

-- A closure that says of each record whether it differs.
module _ {F : Type 0} (R : F → Stored → Bool → F → Type 0) (objects : List Stored) (f : F) (kept : All IsStored objects)
    (says : (o : Stored) (b : Bool) (f' : F) → R f o b f' → (All IsStored objects → IsStored o → b ≡ differs objects o) × (f' ≡ f)) where
  goes_on : (o : Stored) (os : List Stored) (bs : List Bool) (b : Bool) → b ≡ differs objects o → items_where_true bs os ≡ filter (differs objects) os → items_where_true (b ∷ bs) (o ∷ os) ≡ filter (differs objects) (o ∷ os)
  goes_on o os bs true is rest = ap (λ l. o ∷ l) rest ∙ ap (λ c. cond c (o ∷ filter (differs objects) os) (filter (differs objects) os)) is
  goes_on o os bs false is rest = rest ∙ ap (λ c. cond c (o ∷ filter (differs objects) os) (filter (differs objects) os)) is

  in_turn : (bs : List Bool) (os : List Stored) (q : F) → All IsStored os → length bs ≡ length os → ReturnsInTurn R f bs os q → items_where_true bs os ≡ filter (differs objects) os
  in_turn [] [] q stored size told = refl
  in_turn [] (o ∷ os) q stored size told = absurd (omega arith)
  in_turn (b ∷ bs) [] q stored size told = absurd told
  in_turn (b ∷ bs) (o ∷ os) q stored size told =
      let one = says o b told.0 told.1 in
      goes_on o os bs b (one.0 kept (All-head IsStored o os stored)) (in_turn bs os q (All-tail IsStored o os stored) (omega arith) (subst (λ (y : F). ReturnsInTurn R y bs os q) one.1 told.2))

  -- what it retains are the records that differ
  pub retained : (records left : List Stored) → All IsStored records → IsFiltered R f records left → left ≡ records_written objects records
  unfolding records_written
  retained records left stored told = told.4 ∙ in_turn told.0 records told.1 stored told.2 told.3
