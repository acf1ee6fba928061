-- What a message changes is open to who acts, and touches notes alone.
use Rattle.std.proofs.Common.{◌≡◌, ℕ, List, Some, None, refl, ◌∙◌, subst}
use Rattle.muck_model.specs.declared.dbref.Dbref.{Dbref}
use Rattle.spec_live.specs.Lives.{Live, Change, tell_player, tell_others, draw, unchanged}
use Rattle.spec_live.proofs.Keeping.{Order}
use Rattle.spec_rights.specs.declared.act.Actor.{Actor}
use Rattle.spec_rights.specs.declared.act.Act.{Act}
use Rattle.spec_rights.specs.declared.act.Act.TheVariants.{Write}
use Rattle.spec_rights.specs.Verdict.{verdict}
use Rattle.spec_rights.specs.Changing.{property_stored, unstored}
use Rattle.spec_rights.specs.Licence.{Freedom, Licensed, nobody}
use Rattle.spec_rights.proofs.Shown.{quiet_tell_player, quiet_tell_others, quiet_draw}
use Rattle.spec_rights.proofs.Changes.{stays_stored, stays_unstored}
use Rattle.spec_rights.proofs.Licences.{Quiet, Stayed, Stays, Always, itself, stays_quiet, ends_stays, stay_both, stay_rights, whole_ends, licensed, quiet_unchanged}
use Rattle.mpi.specs.Variables.{Variables}
use Rattle.mpi.specs.Meaning.{scene_of, evaluated}
use Rattle.spec_mpi.specs.Stages.{MpiStage}
use Rattle.spec_mpi.specs.Doing.{powers}
use Rattle.spec_mpi.specs.Messages.{formula_heard}
use Rattle.spec_mpi.specs.Touching.{TouchesNotes}
use Rattle.spec_mpi.proofs.Sound.{evaluated_sound}
use Rattle.spec_mpi.proofs.Deeds.{does_law, touching_order, touching_stored, touching_unstored, touching_one, touching_others, touching_draw}

-- Notes alone.

abbrev Touched : MpiStage → MpiStage → Type 0
Touched u v = TouchesNotes u.live v.live

touched_order : Order Touched
touched_order = record { itself = λ s. touching_order.itself s.live; both = λ u v w r s. touching_order.both u.live v.live w.live r s }

pub heard_touches : (a : Actor) (this : Dbref) (text : List ℕ) (vars : Variables) (w : Live) → TouchesNotes w (formula_heard a this text vars w).1
unfolding formula_heard
heard_touches a this text vars w =
    evaluated_sound Touched touched_order (scene_of powers this)
    (λ d s. does_law Touched s (touched_order.itself s) (λ x p value e. touching_stored x p value s.live) (λ x p e. touching_unstored x p s.live) (λ x t. touching_one x t s.live) (λ room but t. touching_others room but t s.live) d)
    (λ s. touching_draw s.live) text (record { variables = vars; left = 0 }, record { actor = a; live = w })

-- By leave.

-- the same acts, and what it changed keeps to the licence and changes no right
pub record Acted (free : Freedom) (u v : MpiStage) : Type 0 where
  pub actor : v.actor ≡ u.actor
  pub stayed : Stayed u.actor free None u.live v.live

acted_by : (free : Freedom) (s : MpiStage) (f : Change) → Stayed s.actor free None s.live (f s.live) → Acted free s (record s { live = f s.live })
acted_by free s f p = record { actor = refl; stayed = p }

acted_shown : (free : Freedom) (s : MpiStage) (f : Change) → Quiet f → Acted free s (record s { live = f s.live })
acted_shown free s f q = acted_by free s f ((stays_quiet s.actor free None f q).law s.live)

-- what is kept by leave is kept where leave was given
acted_given : (free : Freedom) (s : MpiStage) (act : Act) (f : Change) → Stays s.actor free (Some act) f → verdict s.live.objects s.actor act ≡ None → Acted free s (record s { live = f s.live })
acted_given free s act f p e = acted_by free s f (record { law = λ start h g. (p.law s.live).law start h e })

acted_both : (free : Freedom) (u v w : MpiStage) → Acted free u v → Acted free v w → Acted free u w
acted_both free u v w r s =
    let P : Actor → Type 0 = λ a. Stayed a free None v.live w.live in
    let next : Stayed u.actor free None v.live w.live = subst P r.actor s.stayed in
    record {
      actor = s.actor ∙ r.actor;
      stayed = record { law = λ start h g. let first = r.stayed.law start h g in stay_both _ _ _ _ first (next.law start (stay_rights _ start u.live v.live h first) tt) };
    }

acted_order : (free : Freedom) → Order (Acted free)
unfolding unchanged
acted_order free = record { itself = λ s. acted_shown free s unchanged quiet_unchanged; both = acted_both free }

heard_stays : (a : Actor) (free : Freedom) (this : Dbref) (text : List ℕ) (vars : Variables) (w : Live) → Stayed a free None w (formula_heard a this text vars w).1
unfolding formula_heard
heard_stays a free this text vars w =
    (evaluated_sound (Acted free) (acted_order free) (scene_of powers this)
    (λ d s. does_law (Acted free) s ((acted_order free).itself s)
    (λ x p value e. acted_given free s (Write x p) (property_stored x p value) (stays_stored s.actor free x p value) e)
    (λ x p e. acted_given free s (Write x p) (unstored x p) (stays_unstored s.actor free x p) e)
    (λ x t. acted_shown free s (tell_player x t) (quiet_tell_player x t))
    (λ room but t. acted_shown free s (tell_others room but t) (quiet_tell_others room but t)) d)
    (λ s. acted_shown free s draw quiet_draw) text (record { variables = vars; left = 0 }, record { actor = a; live = w })).stayed

-- a message is open to who acts, whatever else is free
pub stays_heard : (a : Actor) (free : Freedom) (this : Dbref) (text : List ℕ) (vars : Variables) → Stays a free None (λ w. (formula_heard a this text vars w).1)
stays_heard a free this text vars = record { law = heard_stays a free this text vars }

pub heard_open : (a : Actor) (this : Dbref) (text : List ℕ) (vars : Variables) (w : Live) → Licensed a nobody w (formula_heard a this text vars w).1
heard_open a this text vars w =
    let f : Change = λ v. (formula_heard a this text vars v).1 in
    licensed itself a None (λ es. nobody) f (whole_ends itself a None (λ es. nobody) Always f (λ v h. ends_stays a nobody None f (stays_heard a nobody this text vars))) w tt

-- who acts stays

abbrev Same : MpiStage → MpiStage → Type 0
Same u v = v.actor ≡ u.actor

same_order : Order Same
same_order = record { itself = λ s. refl; both = λ u v w p q. q ∙ p }

pub same_actor : (this : Dbref) (text : List ℕ) (vars : Variables) (s : MpiStage) → (evaluated (scene_of powers this) text (record { variables = vars; left = 0 }, s)).1.1.actor ≡ s.actor
same_actor this text vars s =
    evaluated_sound Same same_order (scene_of powers this)
    (λ d s. does_law Same s refl (λ x p value e. refl) (λ x p e. refl) (λ x t. refl) (λ room but t. refl) d) (λ s. refl) text (record { variables = vars; left = 0 }, s)
