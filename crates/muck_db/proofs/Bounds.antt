-- The bounds below which no garbage and no mark stand, behind a recycling.
use Rattle.std.proofs.Common.{◌≡◌, ℕ, ◌<◌, ◌≤◌, List, [], ◌∷◌, None, Ok, refl, sym, ◌∙◌, ap, length, arith, Bool, false}
use Rattle.muck_model.specs.declared.dbref.Dbref.{Dbref}
use Rattle.spec_live.specs.Chain.{Ends}
use Rattle.spec_live.specs.Objects.{Entry, is_garbage, kind_in, list_in, mark_in}
use Rattle.spec_live.specs.Moving.{moved}
use Rattle.spec_live.specs.Recycling.{way_home, sent_home, untied, taken_away, recycle_check}
use Rattle.spec_live.proofs.HomeLaws.{mark_untied, kind_untied, kind_sent_home}
use Rattle.spec_live.proofs.Readers.{mark_moved}
use Rattle.muck_db.specs.declared.slot.Slot.{Slot}
use Rattle.muck_db.specs.inner.Slots.{next_at, first_at, kind_at, mark_at, entries_of, IsKept}
use Rattle.muck_db.proofs.Readers.{kind_in-entries_of, mark_in-entries_of}
use Rattle.muck_db.proofs.Leaving.{recycled_from, kept_recycled}

sent_nothing : (es : List Entry) → sent_home [] es ≡ es
unfolding sent_home
sent_nothing es = refl

sent_first : (es : List Entry) (x : ℕ) (xs : List ℕ) → sent_home (x ∷ xs) es ≡ sent_home xs (moved x (way_home x es) es)
unfolding sent_home
sent_first es x xs = refl

mark_sent_home : (es : List Entry) (xs : List ℕ) (k : ℕ) → mark_in (sent_home xs es) k ≡ mark_in es k
mark_sent_home es [] k = ap (λ z. mark_in z k) (sent_nothing es)
mark_sent_home es (x ∷ xs) k = ap (λ z. mark_in z k) (sent_first es x xs) ∙ mark_sent_home (moved x (way_home x es) es) xs k ∙ mark_moved es x (way_home x es) k

-- what is sent home keeps its kind and its mark
kind_cleared : (d k : ℕ) (old mid : List Slot) → entries_of mid ≡ sent_home (list_in false (entries_of old) d) (untied d (entries_of old)) → kind_at mid k ≡ kind_at old k
kind_cleared d k old mid e =
    sym (kind_in-entries_of mid k) ∙ ap (λ (z : List Entry). kind_in z k) e ∙ kind_sent_home (untied d (entries_of old)) (list_in false (entries_of old) d) k ∙ kind_untied d k (entries_of old) ∙ kind_in-entries_of old k

mark_cleared : (d k : ℕ) (old mid : List Slot) → entries_of mid ≡ sent_home (list_in false (entries_of old) d) (untied d (entries_of old)) → mark_at mid k ≡ mark_at old k
mark_cleared d k old mid e =
    sym (mark_in-entries_of mid k) ∙ ap (λ (z : List Entry). mark_in z k) e ∙ mark_sent_home (untied d (entries_of old)) (list_in false (entries_of old) d) k ∙ mark_untied d k (entries_of old) ∙ mark_in-entries_of old k

-- no number below `least` became garbage or was marked
pub record Spares (least : ℕ) (mid new : List Slot) : Type 0 where
  pub full : (k : ℕ) → k < least → is_garbage (kind_at mid k) ≡ false → is_garbage (kind_at new k) ≡ false
  pub unmarked : (k : ℕ) → k < least → mark_at mid k ≡ None → mark_at new k ≡ None

pub kept_gone : (d : Dbref) (n : ℕ) (old mid new : List Slot) (lowest told least low marked : ℕ) (players : List ℕ) → recycle_check d (entries_of old) ≡ Ok n
    → entries_of mid ≡ sent_home (list_in false (entries_of old) n) (untied n (entries_of old)) → entries_of new ≡ taken_away n (entries_of mid)
    → ((v : Bool) (p : ℕ) → Ends (length new) (next_at new) (first_at v new p)) → Spares least mid new → low ≤ lowest → low ≤ least → marked ≤ told → marked ≤ least
    → IsKept old lowest told players → IsKept new low marked players
kept_gone d n old mid new lowest told least low marked players passed e f ends spares a b x y kept =
    let z : IsKept new 0 0 players = kept_recycled d n old new players passed (recycled_from n old mid new e f) ends kept.sound kept.listed in
    record {
      sound = z.sound;
      full = λ k lt. spares.full k (omega (arith, lt, b)) (ap is_garbage (kind_cleared n k old mid e) ∙ kept.full k (omega (arith, lt, a)));
      unmarked = λ k lt. spares.unmarked k (omega (arith, lt, y)) (mark_cleared n k old mid e ∙ kept.unmarked k (omega (arith, lt, x)));
      listed = z.listed;
    }
