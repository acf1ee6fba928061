-- The worked rows.
use Rattle.std.proofs.Common.{◌≡◌, inl, inr, ℕ, ◌+◌, ◌-◌, ◌<◌, ◌≤◌, ◌^◌, true, false, zero, suc, List, [], ◌∷◌, take, refl, ap, ◌∙◌, subst, arith, Result, Ok, lit<}
use Rattle.std.specs.Prelude.{not, nat_le, nat_lt, ◌&&◌, if◌then◌else◌}
use Rattle.muck_model.specs.declared.event.Entry.{Entry}
use Rattle.muck_model.specs.declared.event.Event.TheVariants.{Cut, Stored, DumpFailed}
use Rattle.muck_model.specs.declared.note.Note.{Note}
use Rattle.muck_model.specs.Parameters.{parameters}
use Rattle.spec_live.specs.Saving.{all_saving}
use Rattle.muck_codec.specs.Batches.{batch_bytes, tune_bytes}
use Rattle.muck_store.specs.Forms.{persist, stored_from}
use Rattle.muck_log.specs.Append.{more_of, payload_of}
use Rattle.muck_log.specs.Body.{body_bytes, magic}
use Rattle.muck_log.specs.File.{after_number, begin, file_of, is_gate_open}
use Rattle.muck_log.specs.Store.{Chosen, Damage, opens_new, target, next_body, after_batch, store_of, file_picked}
use Rattle.muck_log.specs.World.{start, records_written}
use Rattle.spec_events.specs.World.{World, world_booted}
use Rattle.spec_events.specs.Steps.{effect}
use Rattle.spec_events.specs.Histories.{by_porter}
use Rattle.spec_dumps.specs.Fronts.{IsFront, Overflows, at_cut, last_cut, batch_number_at, dumped_on, file_most, end_with}
use Rattle.spec_dumps.specs.Survival.{HoldsAt, HoldsBy, HasCause, IsDelta}
use Rattle.spec_dumps.specs.inner.Rows.{bare, nothing_left, quiet_note, one_dump, Rows}

same_store : (x y : Chosen) (r : Result Chosen Damage) → r ≡ Ok x → r ≡ Ok y → x ≡ y
same_store x y r e g = cc

-- Both disks hold one store at a moment.
pub held_one : {D : Type 0} (images : D → ℕ → List ℕ → Type 0) (f s : D) (t u : ℕ) (x y : Chosen) → HoldsAt images f s t u x → HoldsAt images f s t u y → x ≡ y
held_one images f s t u x y v o =
    same_store x y (store_of v.first_left.0 v.second_left.0) (v.each v.first_left.0 v.second_left.0 v.first_left.1 v.second_left.1) (o.each v.first_left.0 v.second_left.0 v.first_left.1 v.second_left.1)

-- No cause.

abbrev empty : Chosen
empty = record { second = false; place = 0; held = begin 1 }

none_stored : store_of [] [] ≡ Ok empty
unfolding store_of file_picked file_of is_gate_open
none_stored = refl

small : end_with empty (at_cut bare (by_porter (Cut 1) ∷ [])) < file_most
unfolding last_cut world_booted effect all_saving target opens_new begin more_of next_body body_bytes magic after_number payload_of records_written start batch_bytes tune_bytes parameters persist stored_from file_most
small = lit< tt

no_cause : HasCause nothing_left true true bare 0 (by_porter (Cut 1) ∷ by_porter (DumpFailed 1) ∷ []) one_dump 0 (quiet_note 1 1) (quiet_note 0 0) → ⊥
no_cause c = elim c.cause [
  | inl rose ↦ elim rose [ inl r ↦ omega (arith, r) | inr r ↦ omega (arith, r) ]
  | inr full ↦ (
      let is : full.0 ≡ empty = same_store full.0 empty (store_of [] []) (full.1.each [] [] refl refl) none_stored in
      let over : Overflows empty (at_cut bare (by_porter (Cut 1) ∷ [])) = subst (λ x. Overflows x (at_cut bare (by_porter (Cut 1) ∷ []))) is full.3 in
      omega (arith, over, small)
      )
]

-- No front.

abbrev story : List Entry
story = by_porter (Cut 1) ∷ by_porter (Stored 1) ∷ []

no_front : (s : Chosen) → s.held.number ≡ 0 → IsFront bare 0 story one_dump 2 s → ⊥
unfolding last_cut
no_front s none f = at f.count f.short f.cut f.number (f.acknowledged 2 1 (omega arith) refl refl) where
  at : (n : ℕ) → n ≤ 2 → last_cut (take n story) ≡ n → s.held.number ≡ batch_number_at 0 story n → 1 ≤ n → ⊥
  at zero short cut is low = omega (arith, low)
  at (suc zero) short cut is low = omega (arith, none, is)
  at (suc (suc zero)) short cut is low = omega (arith, cut)
  at (suc (suc (suc n))) short cut is low = omega (arith, short)

-- No delta.

goes_on : (s : Chosen) → s.held.count ≡ 1 → opens_new s.held ≡ false
unfolding opens_new
goes_on s count = ap (λ n. nat_le 64 n && nat_lt s.held.generation (2 ^ 64 - 1)) count

target_is : (s : Chosen) → opens_new s.held ≡ false → target s ≡ s
unfolding target
target_is s old = ap (λ b. if b then (record { second = not s.second; place = 0; held = begin (s.held.generation + 1) }) else s) old

same_generation : (s : Chosen) (w : World) → s.held.count ≡ 1 → (dumped_on s w).held.generation ≡ s.held.generation
unfolding after_batch
same_generation s w count = ap (λ (t : Chosen). t.held.generation) (target_is s (goes_on s count))

no_delta : {D : Type 0} (images : D → ℕ → List ℕ → Type 0) (f s : D) (x next : Chosen) (w now : World) (mounted n : ℕ) (h : List Entry) (notes : List Note) (before note : Note) →
    HoldsBy images f s before x → x.held.count ≡ 1 → HoldsBy images f s note next → next.held.generation ≡ x.held.generation + 1 → IsDelta images f s w mounted h notes n before note now → ⊥
no_delta images f s x next w now mounted n h notes before note held count wrote opens d =
    let base : d.base ≡ x = held_one images f s before.first_moment before.second_moment d.base x d.held held in
    let made : next ≡ dumped_on d.base now = held_one images f s note.first_moment note.second_moment next (dumped_on d.base now) wrote d.wrote in
    let same : (dumped_on d.base now).held.generation ≡ d.base.held.generation = same_generation d.base now (ap (λ (y : Chosen). y.held.count) base ∙ count) in
    omega (arith, opens, ap (λ (y : Chosen). y.held.generation) made, same, ap (λ (y : Chosen). y.held.generation) base)

pub rows : Rows
unfolding Rows
rows = (
  no_cause,
  no_front,
  λ test s next w now mounted n h notes held count wrote opens d. no_delta _ _ _ s next w now mounted n h notes (quiet_note 0 0) (quiet_note 1 1) held count wrote opens d,
  λ test t u s other v o. held_one _ _ _ t u s other v o,
)
