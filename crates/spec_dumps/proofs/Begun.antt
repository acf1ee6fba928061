-- A run begins: the store was mounted, and noted.
use Rattle.std.proofs.Common.{◌≡◌, ◌⊎◌, inl, ℕ, ◌<◌, ◌≤◌, true, zero, suc, List, [], ◌∷◌, refl, ap, ◌∙◌, subst, arith, Some, None}
use Rattle.std.specs.Prelude.{slice_get}
use Rattle.spec_live.specs.Consistent.{IsConsistent}
use Rattle.muck_model.specs.declared.event.Event.TheVariants.{Cut}
use Rattle.muck_model.specs.declared.note.Note.{Note}
use Rattle.muck_log.specs.Store.{LogState, IsMounted, store_of}
use Rattle.spec_events.specs.World.{World}
use Rattle.spec_events.specs.Histories.{History}
use Rattle.spec_events.specs.Logged.{is_dump, is_stored, is_failed}
use Rattle.spec_dumps.specs.Fronts.{persisted, last_cut, place_of_note, entry_stands_at, event_at, IsFront, Loads, file_most}
use Rattle.spec_dumps.specs.Survival.{stretch_until}
use Rattle.spec_dumps.specs.inner.Holding.{IsAt, IsCounted, Rests}

module _ {D : Type 0} (seen : D → List ℕ) (moment : D → ℕ) (images : D → ℕ → List ℕ → Type 0) (faults : D → ℕ) (log : LogState) (f s : D) (w : World) (note : Note)
    (is : IsMounted seen moment images log f s) (limit : log.most ≡ file_most) (holds : log.chosen.held.world ≡ persisted w) (consistent : IsConsistent w.live.objects)
    (at : note.entries ≡ 0) (here : IsAt moment f s note) (count : IsCounted faults f s note) where
  abbrev begun : History
  begun = record { start = w; entries = []; notes = note ∷ []; counted = None }

  none_cut : last_cut [] ≡ 0
  unfolding last_cut
  none_cut = refl

  -- the store that was mounted is the world at the start
  front : IsFront w log.chosen.held.number [] (note ∷ []) 0 log.chosen
  front = record {
    count = 0;
    short = omega arith;
    world = holds;
    consistent = consistent;
    cut = none_cut;
    number = refl;
    noted = tt;
    acknowledged = λ i place low there stores. absurd (no place stores);
  }
    where
      no : (place : ℕ) → entry_stands_at is_stored [] place ≡ true → ⊥
      no place e = cc

  same : (x : Note) → Some note ≡ Some x → x ≡ note
  same x e = cc

  -- there is one stretch, from that note on
  stretch : (n : ℕ) (x : Note) (t u : ℕ) (c d : List ℕ) → slice_get (note ∷ []) n ≡ Some x → x.first_moment ≤ t → t ≤ stretch_until (λ (y : Note). y.first_moment) (note ∷ []) n (moment f) →
      x.second_moment ≤ u → u ≤ stretch_until (λ (y : Note). y.second_moment) (note ∷ []) n (moment s) → images f t c → images s u d → Loads w log.chosen.held.number [] (note ∷ []) n (store_of c d)
  stretch zero x t u c d there t_low t_high u_low u_high left_c left_d =
      let t_is : t ≡ moment f = omega (arith, t_low, t_high, here.0, ap (λ (y : Note). y.first_moment) (same x there)) in
      let u_is : u ≡ moment s = omega (arith, u_low, u_high, here.1, ap (λ (y : Note). y.second_moment) (same x there)) in
      let c_is = is.first_durable c (subst (λ i. images f i c) t_is left_c) in
      let d_is = is.second_durable d (subst (λ i. images s i d) u_is left_d) in
      (log.chosen, ap (λ x. store_of x d) c_is ∙ ap (store_of (seen f)) d_is ∙ is.load, front)
  stretch (suc n) x t u c d there t_low t_high u_low u_high left_c left_d = cc

  rises : (n : ℕ) (x : Note) → slice_get (note ∷ []) n ≡ Some x → (x.first_moment ≤ stretch_until (λ (y : Note). y.first_moment) (note ∷ []) n (moment f)) × (x.second_moment ≤ stretch_until (λ (y : Note). y.second_moment) (note ∷ []) n (moment s))
  rises zero x there = (omega (arith, here.0, ap (λ (y : Note). y.first_moment) (same x there)), omega (arith, here.1, ap (λ (y : Note). y.second_moment) (same x there)))
  rises (suc n) x there = cc

  past : (n : ℕ) (x : Note) → slice_get (note ∷ []) n ≡ Some x → (x.first_moment ≤ moment f) × (x.second_moment ≤ moment s)
  past zero x there = (omega (arith, here.0, ap (λ (y : Note). y.first_moment) (same x there)), omega (arith, here.1, ap (λ (y : Note). y.second_moment) (same x there)))
  past (suc n) x there = cc

  placed : (i place : ℕ) → place_of_note (note ∷ []) i ≡ Some place → ((i ≡ 0) × (place ≡ 0)) ⊎ (place < 0)
  placed zero place there = inl (refl, first place there) where
    first : (p : ℕ) → Some note.entries ≡ Some p → p ≡ 0
    first p e = let it = at in cc
  placed (suc i) place there = cc

  pub rests_begun : Rests seen moment images faults (Some log) f s log.chosen.held.number begun
  rests_begun = record {
    keeps = record {
      last = 0;
      note = note;
      is = refl;
      end = refl;
      safe = record {
        survives = record { each = stretch; rises = rises; past = past; noted = λ place stands. absurd (none place stands); placed = placed };
        caused = λ n x before there earlier stands. absurd (unfailed x.entries stands);
        deltas = λ n before x earlier there stands. absurd (unstored x.entries stands);
        numbered = λ n k x there cuts. absurd (uncut x.entries k cuts);
        rise = record { each = λ n before x earlier there. cc; past = counts };
      };
      usable = (is, limit, front);
    };
    rests = here;
  }
    where
      none : (place : ℕ) → entry_stands_at is_dump [] place ≡ true → ⊥
      none place e = cc

      unfailed : (place : ℕ) → entry_stands_at is_failed [] place ≡ true → ⊥
      unfailed place e = cc

      uncut : (place k : ℕ) → event_at [] place ≡ Some (Cut k) → ⊥
      uncut place k e = cc

      counts : (n : ℕ) (x : Note) → slice_get (note ∷ []) n ≡ Some x → (x.first_faults ≤ faults f) × (x.second_faults ≤ faults s)
      counts zero x there = (omega (arith, count.0, ap (λ (y : Note). y.first_faults) (same x there)), omega (arith, count.1, ap (λ (y : Note). y.second_faults) (same x there)))
      counts (suc n) x there = cc

      unstored : (place : ℕ) → entry_stands_at is_stored [] place ≡ true → ⊥
      unstored place e = cc
