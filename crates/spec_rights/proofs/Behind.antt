-- What may come behind a change that ends as is open, though it made something new.
use Rattle.std.proofs.Common.{◌≡◌, ◌⊎◌, ℕ, Bool, true, List, refl, sym, ◌∙◌, subst, Option, Some, None, inl, inr}
use Rattle.std.specs.Option.{option_map_or}
use Rattle.muck_model.specs.declared.dbref.Dbref.{Dbref}
use Rattle.muck_model.specs.declared.dbref.Kind.{Kind}
use Rattle.muck_model.specs.declared.dbref.Kind.TheVariants.{Room, Thing, Exit, Player, Program, Garbage}
use Rattle.spec_live.specs.declared.mark.Mark.{Mark}
use Rattle.spec_live.specs.declared.object.Object.{Object}
use Rattle.spec_live.specs.Objects.{Entry, dbref_of, list_in, number_in, object_at}
use Rattle.spec_live.specs.Setting.{set_at, with_password}
use Rattle.spec_live.specs.Lives.{Live, Change}
use Rattle.spec_live.proofs.Keeping.{Keeps, Order, join, keeps_more}
use Rattle.spec_live.proofs.Readers.{list_changed}
use Rattle.spec_live.proofs.Steps.{password}
use Rattle.spec_rights.specs.Verdict.{is_master}
use Rattle.spec_rights.specs.Changing.{at_number, password_kept}
use Rattle.spec_rights.specs.Licence.{Judge, new_open, Differs, Reordered, front_open}
use Rattle.spec_rights.proofs.Lookups.{Row}
use Rattle.spec_rights.proofs.Walking.{acts, silent, same_marks, goes_set}
use Rattle.spec_rights.proofs.Licences.{changed_both, MarkOpen, Quiet, End, end_quietly}
use Rattle.spec_rights.proofs.Changes.{rows_found, kept_digest}

-- v ends as is open wherever w does
pub record Trails (j : Judge) (w v : Live) : Type 0 where
  pub law : (first : Live) → End j first w → End j first v

abbrev pub Trailing : Judge → Change → Type 0
Trailing j f = Keeps (Trails j) f

pub trailing_order : (j : Judge) → Order (Trails j)
trailing_order j = record {
  itself = λ w. record { law = λ first t. t };
  both = λ u v w r s. record { law = λ first t. s.law first (r.law first t) };
}

pub trailing_quiet : (j : Judge) (f : Change) → Quiet f → Trailing j f
trailing_quiet j f q = keeps_more f (λ w v s. record { law = λ first t. end_quietly j first w v t s }) q

-- A wizard's password, also for a player that is new.

-- an object has that password, or is as it was
abbrev Worded : ℕ → List ℕ → Object → Object → Type 0
Worded salt word o p = (p ≡ o) ⊎ (p ≡ with_password salt word o)

new_worded : (j : Judge) (x : Dbref) (salt : ℕ) (word : List ℕ) (o : Object) (kind : Kind) → new_open j x (with_password salt word o) kind ≡ new_open j x o kind
new_worded j x salt word o Room = refl
new_worded j x salt word o Thing = refl
new_worded j x salt word o Exit = refl
new_worded j x salt word o Player = refl
new_worded j x salt word o Program = refl
new_worded j x salt word o Garbage = refl

differs_worded : (j : Judge) (x : Dbref) (salt : ℕ) (word : List ℕ) (q : Option Object) (o p : Object) → is_master j.actor ≡ true → Worded salt word o p → Differs j x q (Some o) → Differs j x q (Some p)
differs_worded j x salt word q o p h (inl e) d = let P : Object → Type 0 = λ t. Differs j x q (Some t) in subst P (sym e) d
differs_worded j x salt word q o p h (inr e) d = let P : Object → Type 0 = λ t. Differs j x q (Some t) in subst P (sym e) (at q d)
  where
    at : (q : Option Object) → Differs j x q (Some o) → Differs j x q (Some (with_password salt word o))
    at None i = record { kind = new_worded j x salt word o o.kind ∙ i.kind; flags = i.flags; link = i.link; lines = i.lines }
    at (Some was) c = changed_both j x was o (with_password salt word o) c (kept_digest j x salt word o h).changed

differs_then : (j : Judge) (x : Dbref) (salt : ℕ) (word : List ℕ) (q r s : Option Object) → is_master j.actor ≡ true → Row (Worded salt word) r s → Differs j x q r → Differs j x q s
differs_then j x salt word q None None h w d = d
differs_then j x salt word q None (Some p) h w d = absurd w
differs_then j x salt word q (Some o) None h w d = absurd w
differs_then j x salt word q (Some o) (Some p) h w d = differs_worded j x salt word q o p h w d

mark_then : (j : Judge) (x : Dbref) (salt : ℕ) (word : List ℕ) (old mid new : Option Mark) (r s : Option Object) → Row (Worded salt word) r s → new ≡ mid → MarkOpen j x old mid r → MarkOpen j x old new s
mark_then j x salt word old mid new None None w e m = tt
mark_then j x salt word old mid new None (Some p) w e m = absurd w
mark_then j x salt word old mid new (Some o) None w e m = absurd w
mark_then j x salt word old mid new (Some o) (Some p) w e m = let P : Option Mark → Type 0 = λ t. MarkOpen j x old t (Some o) in subst P (sym e) m

lists_set : (v : Bool) (k : ℕ) (f : Object → Object) (es : List Entry) (q : Option ℕ) → list_in v (option_map_or (λ m. set_at f m es) q es) k ≡ list_in v es k
lists_set v k f es None = refl
lists_set v k f es (Some m) = list_changed v m k f es

pub trailing_password : (j : Judge) (x : Dbref) (salt : ℕ) (word : List ℕ) → is_master j.actor ≡ true → Trailing j (password_kept x salt word)
unfolding password_kept
trailing_password j x salt word h = record { law = λ w. record { law = λ first t. at w first t } }
  where
    f : Object → Object
    f = with_password salt word

    rows : (es : List Entry) (n : ℕ) → Row (Worded salt word) (object_at (dbref_of n) es) (object_at (dbref_of n) (at_number (set_at f) x es))
    rows es n = rows_found (λ y. Worded salt word) (λ y o. inl refl) x f (λ o. refl) (λ o. inr refl) es n

    at : (w first : Live) → End j first w → End j first (password_kept x salt word w)
    at w first t = record {
      rows = λ n. differs_then j (dbref_of n) salt word _ _ _ h (rows w.objects n) (t.rows n);
      lists = λ v p. let P : List ℕ → Type 0 = λ xs. Reordered (front_open j first.objects p) (list_in v first.objects p) xs in subst P (sym (lists_set v p f w.objects (number_in w.objects x))) (t.lists v p);
      marks = λ n. mark_then j (dbref_of n) salt word _ _ _ _ _ (rows w.objects n) (same_marks w (password_kept x salt word w) (goes_set silent (password salt word) x w refl) n) (t.marks n);
      goes = join t.goes (goes_set acts (password salt word) x w refl);
      ties = t.ties;
      tune = t.tune;
    }
