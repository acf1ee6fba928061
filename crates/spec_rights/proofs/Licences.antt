-- What keeps to the licence: one lemma for each way to put changes together.
use Rattle.std.proofs.Common.{◌≡◌, ℕ, Bool, true, false, List, [], ◌∷◌, refl, sym, ◌∙◌, ap, subst, Option, Some, None, inl, inr, cond}
use Rattle.std.specs.Prelude.{find, ◌||◌, ◌&&◌, ◌==◌}
use Rattle.std.specs.FinMap.{get}
use Rattle.std.specs.Option.{option_map, option_and_then, option_map_or}
use Rattle.muck_model.specs.declared.dbref.Dbref.{Dbref}
use Rattle.muck_model.specs.declared.dbref.Denial.{Denial}
use Rattle.spec_live.specs.declared.mark.Mark.{Mark}
use Rattle.spec_live.specs.declared.object.Object.{Object}
use Rattle.spec_live.specs.Objects.{Entry, dbref_of, same, is_exit, mark_in, object_at}
use Rattle.spec_live.specs.Connections.{Connection, is_connection}
use Rattle.spec_live.specs.Boards.{player_in}
use Rattle.spec_live.specs.Lives.{Live, Change, change_followed, reading}
use Rattle.spec_live.proofs.Keeping.{Keeps, stays, one, join, keeps_after, keeps_more, keeps_told}
pub use Rattle.spec_live.proofs.Lives.{tie, ties, Shows, Quiet, quiet_order, quiet_unchanged}
use Rattle.spec_live.proofs.Lives.{Readies, readies}
use Rattle.spec_live.proofs.Lives.{Goes, shows, fewer_along}
use Rattle.spec_live.proofs.Tracing.{traced_along}
use Rattle.spec_rights.specs.declared.act.Actor.{Actor}
use Rattle.spec_rights.specs.declared.act.Act.{Act}
use Rattle.spec_rights.specs.Verdict.{is_master, verdict}
use Rattle.spec_rights.specs.Licence.{Freedom, Open, Judge, owned, name_open, property_open, place_open, link_open, home_open, level_open, lines_open, owner_open, Changed, Differs, SameLists, leave_open, SameTies, Licensed}
use Rattle.spec_rights.specs.Asking.{denial_answered, asked}
use Rattle.spec_rights.proofs.Lookups.{Row, row_same, row_both}
use Rattle.spec_rights.proofs.Listing.{lists_itself, lists_both}
use Rattle.spec_rights.proofs.Walking.{acts}
use Rattle.spec_rights.proofs.Rights.{rights, SameRights, same_itself}

abbrev pub judge : Actor → Freedom → List Entry → Judge
judge a free os = record { actor = a; free = free; gone = None; objects = os }

-- Differences that are open add up.

pub open_both : {X : Type 0} (test : X → Bool) (x y z : X) → Open test x y → Open test y z → Open test x z
open_both test x y z (inl e) (inl f) = inl (f ∙ e)
open_both test x y z (inr h) (inl f) = inr (ap test f ∙ h)
open_both test x y z p (inr h) = inr h

pub changed_same : (j : Judge) (x : Dbref) (o : Object) → Changed j x o o
changed_same j x o = record {
  kind = refl;
  name = inl refl;
  owner = inl refl;
  place = inl refl;
  link = inl refl;
  home = inl refl;
  flags = inl refl;
  wizard = inl refl;
  level = inl refl;
  props = λ path. inl refl;
  lines = inl refl;
  digest = inl refl;
}

pub changed_both : (j : Judge) (x : Dbref) (o p q : Object) → Changed j x o p → Changed j x p q → Changed j x o q
changed_both j x o p q r s = record {
  kind = s.kind ∙ r.kind;
  name = open_both (λ name. name_open j x) _ _ _ r.name s.name;
  owner = open_both (owner_open j x) _ _ _ r.owner s.owner;
  place = open_both (place_open j x) _ _ _ r.place s.place;
  link = open_both (link_open j x) _ _ _ r.link s.link;
  home = open_both (home_open j x) _ _ _ r.home s.home;
  flags = open_both (λ flags. owned j x) _ _ _ r.flags s.flags;
  wizard = open_both (λ b. owned j x && is_master j.actor) _ _ _ r.wizard s.wizard;
  level = open_both (level_open j x) _ _ _ r.level s.level;
  props = λ path. open_both (λ value. property_open j x path) _ _ _ (r.props path) (s.props path);
  lines = open_both (λ lines. lines_open j x) _ _ _ r.lines s.lines;
  digest = open_both (λ digest. is_master j.actor) _ _ _ r.digest s.digest;
}

-- an object that was there, with its rights
pub record Kept (j : Judge) (x : Dbref) (o p : Object) : Type 0 where
  pub changed : Changed j x o p
  pub same : rights o ≡ rights p

pub kept_same : (j : Judge) (x : Dbref) (o : Object) → Kept j x o o
kept_same j x o = record { changed = changed_same j x o; same = refl }

pub kept_both : (j : Judge) (x : Dbref) (o p q : Object) → Kept j x o p → Kept j x p q → Kept j x o q
kept_both j x o p q r s = record { changed = changed_both j x o p q r.changed s.changed; same = r.same ∙ s.same }

-- What is to be told: of an object that is there, what was, or that its source changed, where that is open.

abbrev pub MarkOpen : Judge → Dbref → Option Mark → Option Mark → Option Object → Type 0
MarkOpen j x old new None = Unit {0}
MarkOpen j x old new (Some o) = Open (λ mark. lines_open j x) old new

abbrev pub SameMarks : Judge → List Entry → List Entry → Type 0
SameMarks j es fs = (n : ℕ) → MarkOpen j (dbref_of n) (mark_in es n) (mark_in fs n) (object_at (dbref_of n) fs)

abbrev pub TellsLines : Judge → List Entry → List Entry → Type 0
TellsLines j es fs = (n : ℕ) → Open (λ mark. lines_open j (dbref_of n)) (mark_in es n) (mark_in fs n)

pub mark_open : (j : Judge) (x : Dbref) (old new : Option Mark) (q : Option Object) → Open (λ mark. lines_open j x) old new → MarkOpen j x old new q
mark_open j x old new None m = tt
mark_open j x old new (Some o) m = m

marks_open : (j : Judge) (es fs : List Entry) → TellsLines j es fs → SameMarks j es fs
marks_open j es fs m n = mark_open j (dbref_of n) _ _ (object_at (dbref_of n) fs) (m n)

marks_both : (j : Judge) (es fs gs : List Entry) → TellsLines j es fs → SameMarks j fs gs → SameMarks j es gs
marks_both j es fs gs m k n = at (object_at (dbref_of n) gs) (k n)
  where
    at : (q : Option Object) → MarkOpen j (dbref_of n) (mark_in fs n) (mark_in gs n) q → MarkOpen j (dbref_of n) (mark_in es n) (mark_in gs n) q
    at None s = tt
    at (Some o) s = open_both (λ mark. lines_open j (dbref_of n)) _ _ _ (m n) s

-- Connections.

pub ties_same : (a : Actor) (cs ds : List Connection) → ties ds ≡ ties cs → SameTies a cs ds
ties_same a [] [] e = tt
ties_same a [] (d ∷ ds) e = absurd (cc)
ties_same a (c ∷ cs) [] e = absurd (cc)
ties_same a (c ∷ cs) (d ∷ ds) e =
    let head : tie d ≡ tie c = cc in
    let rest : ties ds ≡ ties cs = cc in
    let number : d.number ≡ c.number = ap (λ (t : ℕ × Option Dbref × Bool). t.0) head in
    let player : d.player ≡ c.player = ap (λ (t : ℕ × Option Dbref × Bool). t.1) head in
    let leaving : d.leaving ≡ c.leaving = ap (λ (t : ℕ × Option Dbref × Bool). t.2) head in
    (number, player, inl leaving, ties_same a cs ds rest)

pub ties_itself : (a : Actor) (cs : List Connection) → SameTies a cs cs
ties_itself a cs = ties_same a cs cs refl

leave_both : (a : Actor) (c d e : Connection) → d.player ≡ c.player → Open (λ leaving. leave_open a c) c.leaving d.leaving → Open (λ leaving. leave_open a d) d.leaving e.leaving → Open (λ leaving. leave_open a c) c.leaving e.leaving
leave_both a c d e p r s =
    let P : Option Dbref → Type 0 = λ t. Open (λ leaving. is_master a || option_map_or (same a.player) t false) d.leaving e.leaving in
    let t : Open (λ leaving. leave_open a c) d.leaving e.leaving = subst P p s in
    open_both (λ leaving. leave_open a c) c.leaving d.leaving e.leaving r t

pub ties_both : (a : Actor) (cs ds es : List Connection) → SameTies a cs ds → SameTies a ds es → SameTies a cs es
ties_both a [] [] [] r s = tt
ties_both a [] [] (e ∷ es) r s = absurd s
ties_both a [] (d ∷ ds) es r s = absurd r
ties_both a (c ∷ cs) [] es r s = absurd r
ties_both a (c ∷ cs) (d ∷ ds) [] r s = absurd s
ties_both a (c ∷ cs) (d ∷ ds) (e ∷ es) r s = (s.0 ∙ r.0, s.1 ∙ r.1, leave_both a c d e r.1 r.2 s.2, ties_both a cs ds es r.3 s.3)

-- a connection keeps its player
player_kept : (d : ℕ) (cs ds : List Connection) → ties ds ≡ ties cs → option_and_then (λ (c : Connection). c.player) (find (is_connection d) ds) ≡ option_and_then (λ (c : Connection). c.player) (find (is_connection d) cs)
player_kept d [] [] e = refl
player_kept d [] (y ∷ ys) e = absurd (cc)
player_kept d (x ∷ xs) [] e = absurd (cc)
player_kept d (x ∷ xs) (y ∷ ys) e =
    let head : tie y ≡ tie x = cc in
    let rest : ties ys ≡ ties xs = cc in
    let number : y.number ≡ x.number = ap (λ (t : ℕ × Option Dbref × Bool). t.0) head in
    let player : y.player ≡ x.player = ap (λ (t : ℕ × Option Dbref × Bool). t.1) head in
    let next = player_kept d xs ys rest in
    let P : ℕ → Type 0 = λ n. option_and_then (λ (c : Connection). c.player) (cond (n == d) (Some y) (find (is_connection d) ys)) ≡ option_and_then (λ (c : Connection). c.player) (cond (x.number == d) (Some x) (find (is_connection d) xs)) in
    subst P (sym number) (elim (x.number == d) as (λ b. option_and_then (λ (c : Connection). c.player) (cond b (Some y) (find (is_connection d) ys)) ≡ option_and_then (λ (c : Connection). c.player) (cond b (Some x) (find (is_connection d) xs))) [ true ↦ player | false ↦ next ])

-- Worlds between which only objects that were there differ, and no right does.
pub record Stay (j : Judge) (w v : Live) : Type 0 where
  pub rows : (n : ℕ) → Row (Kept j (dbref_of n)) (object_at (dbref_of n) w.objects) (object_at (dbref_of n) v.objects)
  pub lists : SameLists j w.objects v.objects
  pub marks : TellsLines j w.objects v.objects
  pub goes : Goes acts w v
  pub ties : SameTies j.actor w.board.connections v.board.connections
  pub tune : v.board.tune ≡ w.board.tune

-- Worlds that differ as is open.
pub record End (j : Judge) (w v : Live) : Type 0 where
  pub rows : (n : ℕ) → Differs j (dbref_of n) (object_at (dbref_of n) w.objects) (object_at (dbref_of n) v.objects)
  pub lists : SameLists j w.objects v.objects
  pub marks : SameMarks j w.objects v.objects
  pub goes : Goes acts w v
  pub ties : SameTies j.actor w.board.connections v.board.connections
  pub tune : v.board.tune ≡ w.board.tune

pub stay_itself : (j : Judge) (w : Live) → Stay j w w
stay_itself j w = record {
  rows = λ n. row_same _ (kept_same j (dbref_of n)) (object_at (dbref_of n) w.objects);
  lists = lists_itself j w.objects;
  marks = λ n. inl refl;
  goes = stays;
  ties = ties_itself j.actor w.board.connections;
  tune = refl;
}

pub stay_both : (j : Judge) (u v w : Live) → Stay j u v → Stay j v w → Stay j u w
stay_both j u v w s t = record {
  rows = λ n. row_both _ _ _ (kept_both j (dbref_of n)) _ _ _ (s.rows n) (t.rows n);
  lists = lists_both j (λ n. Kept j (dbref_of n)) u.objects v.objects w.objects s.rows s.lists t.lists;
  marks = λ n. open_both (λ mark. lines_open j (dbref_of n)) _ _ _ (s.marks n) (t.marks n);
  goes = join s.goes t.goes;
  ties = ties_both j.actor _ _ _ s.ties t.ties;
  tune = t.tune ∙ s.tune;
}

-- what only shows may follow

pub stay_quietly : (j : Judge) (u v w : Live) → Stay j u v → Shows v w → Stay j u w
stay_quietly j u v w t q =
    let P : List Entry → Type 0 = λ os. Stay j u (record { objects = os; board = v.board }) in
    let s = subst P (sym q.objects) t in
    record { rows = s.rows; lists = s.lists; marks = s.marks; goes = join t.goes (one (shows v w refl q)); ties = ties_both j.actor _ _ _ t.ties (ties_same j.actor v.board.connections w.board.connections (readies v w q).ties); tune = q.tune ∙ t.tune }

pub end_quietly : (j : Judge) (u v w : Live) → End j u v → Shows v w → End j u w
end_quietly j u v w t q =
    let P : List Entry → Type 0 = λ os. End j u (record { objects = os; board = v.board }) in
    let s = subst P (sym q.objects) t in
    record { rows = s.rows; lists = s.lists; marks = s.marks; goes = join t.goes (one (shows v w refl q)); ties = ties_both j.actor _ _ _ t.ties (ties_same j.actor v.board.connections w.board.connections (readies v w q).ties); tune = q.tune ∙ t.tune }

row_rights : (j : Judge) (x : Dbref) (o p : Option Object) → Row (Kept j x) o p → option_map rights o ≡ option_map rights p
row_rights j x None None r = refl
row_rights j x None (Some p) r = absurd r
row_rights j x (Some o) None r = absurd r
row_rights j x (Some o) (Some p) r = ap Some r.same

pub stay_rights : (j : Judge) (start : List Entry) (v w : Live) → SameRights start v.objects → Stay j v w → SameRights start w.objects
stay_rights j start v w s t = record { at = λ n. s.at n ∙ row_rights j (dbref_of n) _ _ (t.rows n) }

pub differs_kept : (j : Judge) (x : Dbref) (o p : Option Object) → Row (Kept j x) o p → Differs j x o p
differs_kept j x None None r = tt
differs_kept j x None (Some p) r = absurd r
differs_kept j x (Some o) None r = absurd r
differs_kept j x (Some o) (Some p) r = r.changed

-- where nothing is recycled
pub kept_differs : (a : Actor) (free : Freedom) (os : List Entry) (x : Dbref) (o p q : Option Object) → Row (Kept (judge a free os) x) o p → Differs (judge a free os) x p q → Differs (judge a free os) x o q
kept_differs a free os x None None q r s = s
kept_differs a free os x None (Some p) q r s = absurd r
kept_differs a free os x (Some o) None q r s = absurd r
kept_differs a free os x (Some o) (Some p) None r s = absurd (never (is_exit p.kind) s)
  where
    never : (b : Bool) → (b && false) ≡ true → ⊥
    never true e = cc
    never false e = cc
kept_differs a free os x (Some o) (Some p) (Some q) r s = changed_both (judge a free os) x o p q r.changed s

-- The kinds of changes; a change may need an act that was allowed.

abbrev pub Given : Option Act → List Entry → Actor → Type 0
Given None os a = Unit {0}
Given (Some act) os a = verdict os a act ≡ None

-- keeps to the licence, and changes no right
pub record Stayed (a : Actor) (free : Freedom) (given : Option Act) (w v : Live) : Type 0 where
  pub law : (start : List Entry) → SameRights start w.objects → Given given w.objects a → Stay (judge a free start) w v

abbrev pub Stays : Actor → Freedom → Option Act → Change → Type 0
Stays a free given f = Keeps (Stayed a free given) f

-- the way that it goes
pub stays_goes : (a : Actor) (free : Freedom) (f : Change) → Stays a free None f → Keeps (Goes acts) f
stays_goes a free f p = keeps_more f (λ w v s. (s.law w.objects (same_itself w.objects) tt).goes) p

-- keeps to the licence; out is the world of what it answers
pub record Ended {Y : Type 0} (out : Y → Live) (a : Actor) (free : Freedom) (given : Option Act) (w : Live) (y : Y) : Type 0 where
  pub law : (start : List Entry) → SameRights start w.objects → Given given w.objects a → End (judge a free start) w (out y)

abbrev pub Ends : {Y : Type 0} → (Y → Live) → Actor → Freedom → Option Act → (Live → Y) → Type 0
Ends out a free given f = Keeps (Ended out a free given) f

-- the connection, where there is one, is the actor's own
abbrev pub Own : Option ℕ → Live → Actor → Type 0
Own None w a = Unit {0}
Own (Some d) w a = player_in d w.board ≡ Some a.player

-- it is licensed, and so is what is to be told; it goes by steps that acts may do; and nothing is tuned
pub record Proper (a : Actor) (free : Freedom) (w v : Live) : Type 0 where
  pub licensed : Licensed a free w v
  pub marks : SameMarks (judge a free w.objects) w.objects v.objects
  pub goes : Goes acts w v
  pub tune : v.board.tune ≡ w.board.tune

-- keeps to the licence from a world of which something is given, at a connection of the actor's or none; what is free
-- is judged there
pub record Wholly {Y : Type 0} (out : Y → Live) (a : Actor) (own : Option ℕ) (free : List Entry → Freedom) (given : Live → Type 0) (w : Live) (y : Y) : Type 0 where
  pub law : Own own w a → given w → Proper a (free w.objects) w (out y)

abbrev pub Whole : {Y : Type 0} → (Y → Live) → Actor → Option ℕ → (List Entry → Freedom) → (Live → Type 0) → (Live → Y) → Type 0
Whole out a own free given f = Keeps (Wholly out a own free given) f

abbrev pub Always : Live → Type 0
Always w = Unit {0}

abbrev pub itself : Live → Live
itself w = w

-- What is asked.

keeps_answered : {Y : Type 0} (R : Live → Y → Type 0) (refuse : Denial → Live → Y) (go : Live → Y) (w : Live) (found v : Option Denial) →
    found ≡ v → ((denial : Denial) → found ≡ Some denial → R w (refuse denial w)) → (found ≡ None → R w (go w)) → R w (denial_answered v refuse go w)
keeps_answered R refuse go w found None e p q = q e
keeps_answered R refuse go w found (Some denial) e p q = p denial e

-- by what the verdict is
pub keeps_judged : {Y : Type 0} {R : Live → Y → Type 0} (a : Actor) (act : Act) (refuse : Denial → Live → Y) (go : Live → Y) →
    ((w : Live) (denial : Denial) → R w (refuse denial w)) → ((w : Live) → verdict w.objects a act ≡ None → R w (go w)) → Keeps R (asked a act refuse go)
unfolding asked
keeps_judged {R} a act refuse go p q = record { law = λ w. keeps_answered R refuse go w (verdict w.objects a act) _ refl (λ denial e. p w denial) (q w) }

pub keeps_asked : {Y : Type 0} {R : Live → Y → Type 0} (a : Actor) (act : Act) (refuse : Denial → Live → Y) (go : Live → Y) → ((denial : Denial) → Keeps R (refuse denial)) → Keeps R go → Keeps R (asked a act refuse go)
keeps_asked a act refuse go p q = keeps_judged a act refuse go (λ w denial. (p denial).law w) (λ w e. q.law w)

-- Each by its law.

pub stays_by : {a : Actor} {free : Freedom} {given : Option Act} (f : Change) → ((start : List Entry) (w : Live) → SameRights start w.objects → Given given w.objects a → Stay (judge a free start) w (f w)) → Stays a free given f
stays_by f p = record { law = λ w. record { law = λ start s g. p start w s g } }

pub ends_by : {Y : Type 0} {out : Y → Live} {a : Actor} {free : Freedom} {given : Option Act} (f : Live → Y) → ((start : List Entry) (w : Live) → SameRights start w.objects → Given given w.objects a → End (judge a free start) w (out (f w))) → Ends out a free given f
ends_by f p = record { law = λ w. record { law = λ start s g. p start w s g } }

pub whole_by : {Y : Type 0} {out : Y → Live} {a : Actor} {own : Option ℕ} {free : List Entry → Freedom} {given : Live → Type 0} (f : Live → Y) → ((w : Live) → Own own w a → given w → Proper a (free w.objects) w (out (f w))) → Whole out a own free given f
whole_by f p = record { law = λ w. record { law = λ c h. p w c h } }

-- Changes no right.

pub stays_quiet : (a : Actor) (free : Freedom) (given : Option Act) (f : Change) → Quiet f → Stays a free given f
stays_quiet a free given f q = keeps_more f (λ w v s. record { law = λ start r h. stay_quietly (judge a free start) w w v (stay_itself (judge a free start) w) s }) q

pub stays_followed : (a : Actor) (free : Freedom) (given : Option Act) (f g : Change) → Stays a free given f → Stays a free None g → Stays a free given (change_followed f g)
stays_followed a free given f g p q = keeps_after f g (λ w v u s t. record {
  law = λ start r h. let first = s.law start r h in stay_both _ _ _ _ first (t.law start (stay_rights _ start w v r first) tt);
}) p q

-- what only shows may come first, and what is given stays so
pub stays_behind : (a : Actor) (free : Freedom) (given : Option Act) (f g : Change) → Quiet f → Stays a free given g → Stays a free given (change_followed f g)
stays_behind a free given f g q p = keeps_after f g (λ w v u s t. record {
  law = λ start r h.
      let j = judge a free start in
      let R : List Entry → Type 0 = λ os. SameRights start os in
      let G : List Entry → Type 0 = λ os. Given given os a in
      stay_both j w v u (stay_quietly j w w v (stay_itself j w) s) (t.law start (subst R (sym s.objects) r) (subst G (sym s.objects) h));
}) q p

-- what was given before an act is asked is forgotten
pub stays_asked : (a : Actor) (free : Freedom) (given : Option Act) (act : Act) (refuse : Denial → Change) (go : Change) →
    ((d : Denial) → Stays a free None (refuse d)) → Stays a free (Some act) go → Stays a free given (asked a act refuse go)
stays_asked a free given act refuse go p q =
    keeps_judged a act refuse go (λ w d. record { law = λ start s h. ((p d).law w).law start s tt }) (λ w e. record { law = λ start s h. (q.law w).law start s e })

-- Keeps to the licence.

pub stay_end : (j : Judge) (w v : Live) → Stay j w v → End j w v
stay_end j w v t = record { rows = λ n. differs_kept _ (dbref_of n) _ _ (t.rows n); lists = t.lists; marks = marks_open j w.objects v.objects t.marks; goes = t.goes; ties = t.ties; tune = t.tune }

pub ends_stays : (a : Actor) (free : Freedom) (given : Option Act) (f : Change) → Stays a free given f → Ends itself a free given f
ends_stays a free given f p = keeps_more f (λ w v s. record { law = λ start r h. stay_end (judge a free start) w v (s.law start r h) }) p

pub ends_quiet : (a : Actor) (free : Freedom) (given : Option Act) (f : Change) → Quiet f → Ends itself a free given f
ends_quiet a free given f q = ends_stays a free given f (stays_quiet a free given f q)

pub ends_followed : {Y : Type 0} (out : Y → Live) (a : Actor) (free : Freedom) (given : Option Act) (f : Change) (g : Live → Y) → Stays a free given f → Ends out a free None g → Ends out a free given (change_followed f g)
ends_followed out a free given f g p q = keeps_after f g (λ w v y s t. record {
  law = λ start r h.
      let first = s.law start r h in
      let next = t.law start (stay_rights _ start w v r first) tt in
      record {
        rows = λ n. kept_differs a free start (dbref_of n) _ _ _ (first.rows n) (next.rows n);
        lists = lists_both (judge a free start) (λ n. Kept (judge a free start) (dbref_of n)) _ _ _ first.rows first.lists next.lists;
        marks = marks_both (judge a free start) _ _ _ first.marks next.marks;
        goes = join first.goes next.goes;
        ties = ties_both a _ _ _ first.ties next.ties;
        tune = next.tune ∙ first.tune;
      };
}) p q

pub ends_quietly : (a : Actor) (free : Freedom) (given : Option Act) (f g : Change) → Ends itself a free given f → Quiet g → Ends itself a free given (change_followed f g)
ends_quietly a free given f g p q = keeps_after f g (λ w v u s t. record { law = λ start r h. end_quietly (judge a free start) w v u (s.law start r h) t }) p q

pub ends_asked : {Y : Type 0} (out : Y → Live) (a : Actor) (free : Freedom) (given : Option Act) (act : Act) (refuse : Denial → Live → Y) (go : Live → Y) →
    ((d : Denial) → Ends out a free None (refuse d)) → Ends out a free (Some act) go → Ends out a free given (asked a act refuse go)
ends_asked out a free given act refuse go p q =
    keeps_judged a act refuse go (λ w d. record { law = λ start s h. ((p d).law w).law start s tt }) (λ w e. record { law = λ start s h. (q.law w).law start s e })

-- Whole commands.

pub own_kept : (own : Option ℕ) (w v : Live) (a : Actor) → ties v.board.connections ≡ ties w.board.connections → Own own w a → Own own v a
own_kept None w v a e c = tt
own_kept (Some d) w v a e c = player_kept d w.board.connections v.board.connections e ∙ c

pub end_proper : (a : Actor) (free : Freedom) (w v : Live) → End (judge a free w.objects) w v → Proper a free w v
end_proper a free w v t = record {
  licensed = record {
    gone = None;
    recycled = λ x e. absurd (cc);
    vanished = λ x e. absurd (cc);
    objects = t.rows;
    no_fewer = fewer_along acts w v t.goes;
    traced = traced_along acts refl refl w v t.goes;
    lists = t.lists;
    connections = t.ties;
    tune = inl t.tune;
  };
  marks = t.marks;
  goes = t.goes;
  tune = t.tune;
}

pub whole_ends : {Y : Type 0} (out : Y → Live) (a : Actor) (own : Option ℕ) (free : List Entry → Freedom) (given : Live → Type 0) (f : Live → Y) → ((w : Live) → given w → Ends out a (free w.objects) None f) → Whole out a own free given f
whole_ends out a own free given f p = whole_by f (λ w c h.
    let t = ((p w h).law w).law w.objects (same_itself w.objects) tt in
    end_proper a (free w.objects) w _ t)

pub whole_quiet : (a : Actor) (own : Option ℕ) (free : List Entry → Freedom) (given : Live → Type 0) (f : Change) → Quiet f → Whole itself a own free given f
whole_quiet a own free given f q = whole_ends itself a own free given f (λ w h. ends_quiet a (free w.objects) None f q)

-- What isn't judged may come behind what is licensed, and before it.

pub licensed_as : (a : Actor) (free : Freedom) (w u v : Live) → Licensed a free w u → Readies u v → Licensed a free w v
licensed_as a free w u v l r =
    let P : List Entry → Type 0 = λ os. Licensed a free w (record { objects = os; board = u.board }) in
    let q = subst P (sym r.objects) l in
    record {
      gone = q.gone;
      recycled = q.recycled;
      vanished = q.vanished;
      objects = q.objects;
      no_fewer = q.no_fewer;
      traced = q.traced;
      lists = q.lists;
      connections = ties_both a _ _ _ l.connections (ties_same a u.board.connections v.board.connections r.ties);
      tune = open_both (λ tune. is_master a) _ _ _ l.tune (inl r.tune);
    }

pub licensed_from : (a : Actor) (free : Freedom) (w u v : Live) → Readies w u → Licensed a free u v → Licensed a free w v
licensed_from a free w u v r l =
    let P : List Entry → Type 0 = λ os. Licensed a free (record { objects = os; board = u.board }) v in
    let q = subst P r.objects l in
    record {
      gone = q.gone;
      recycled = q.recycled;
      vanished = q.vanished;
      objects = q.objects;
      no_fewer = q.no_fewer;
      traced = q.traced;
      lists = q.lists;
      connections = ties_both a _ _ _ (ties_same a w.board.connections u.board.connections r.ties) l.connections;
      tune = open_both (λ tune. is_master a) _ _ _ (inl r.tune) l.tune;
    }

-- what only shows comes first, after which nothing is given
pub whole_followed : {Y : Type 0} (out : Y → Live) (a : Actor) (own : Option ℕ) (free : List Entry → Freedom) (given : Live → Type 0) (f : Change) (g : Live → Y) → Quiet f → Whole out a own free Always g → Whole out a own free given (change_followed f g)
whole_followed out a own free given f g q p = keeps_after f g (λ w v y s t. record { law = λ c h. after w v (out y) s (t.law (own_kept own w v a (readies w v s).ties c) tt) }) q p
  where
    after : (w v u : Live) → Shows w v → Proper a (free v.objects) v u → Proper a (free w.objects) w u
    after w v u s p =
        let P : List Entry → Type 0 = λ os. Proper a (free os) (record { objects = os; board = v.board }) u in
        let q = subst P s.objects p in
        let x : Live = record { objects = w.objects; board = v.board } in
        record { licensed = licensed_from a (free w.objects) w x u (record { objects = refl; ties = (readies w v s).ties; tune = s.tune }) q.licensed; marks = q.marks; goes = join (one (shows w v refl s)) p.goes; tune = p.tune ∙ s.tune }

-- and what only shows may come last
pub whole_quietly : (a : Actor) (own : Option ℕ) (free : List Entry → Freedom) (given : Live → Type 0) (f g : Change) → Whole itself a own free given f → Quiet g → Whole itself a own free given (change_followed f g)
whole_quietly a own free given f g p q = keeps_after f g (λ w v u s t. record {
  law = λ c h.
      let p = s.law c h in
      let M : List Entry → Type 0 = λ os. SameMarks (judge a (free w.objects) w.objects) w.objects os in
      record { licensed = licensed_as a (free w.objects) w v u p.licensed (readies v u t); marks = subst M (sym t.objects) p.marks; goes = join p.goes (one (shows v u refl t)); tune = t.tune ∙ p.tune };
}) p q

-- with what was read
pub whole_told : {X Y : Type 0} (out : Y → Live) (a : Actor) (own : Option ℕ) (free : List Entry → Freedom) (given : Live → Type 0) (get : Live → X) (go : X → Live → Y) →
    ((x : X) → Whole out a own free (λ w. given w × (get w ≡ x)) (go x)) → Whole out a own free given (reading get go)
whole_told out a own free given get go p = keeps_told get go (λ x w y e s. record { law = λ c h. s.law c (h, e) }) p

pub whole_asked : {Y : Type 0} (out : Y → Live) (a : Actor) (own : Option ℕ) (free : List Entry → Freedom) (given : Live → Type 0) (act : Act) (refuse : Denial → Live → Y) (go : Live → Y) →
    ((denial : Denial) → Whole out a own free Always (refuse denial)) → Whole out a own free (λ w. given w × (verdict w.objects a act ≡ None)) go → Whole out a own free given (asked a act refuse go)
whole_asked out a own free given act refuse go p q =
    keeps_judged a act refuse go (λ w denial. record { law = λ c h. ((p denial).law w).law c tt }) (λ w e. record { law = λ c h. (q.law w).law c (h, e) })

-- The law itself.
pub licensed : {Y : Type 0} (out : Y → Live) (a : Actor) (own : Option ℕ) (free : List Entry → Freedom) (f : Live → Y) → Whole out a own free Always f → (w : Live) → Own own w a → Licensed a (free w.objects) w (out (f w))
licensed out a own free f p w c = ((p.law w).law c tt).licensed
