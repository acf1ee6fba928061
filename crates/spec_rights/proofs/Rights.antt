-- What rights rest on stays the same.
use Rattle.std.proofs.Common.{◌≡◌, ℕ, ℤ, false, not, ◌&&◌, ◌||◌, if◌then◌else◌, Option, Some, None, refl, sym, ◌∙◌, ap, List}
use Rattle.std.specs.Prelude.{pos, negsuc, nat_le}
use Rattle.std.specs.Option.{option_map, option_map_or}
use Rattle.muck_model.specs.declared.dbref.Dbref.{Dbref}
use Rattle.muck_model.specs.declared.dbref.Flags.{Flags}
use Rattle.muck_model.specs.declared.dbref.Kind.{Kind}
use Rattle.spec_live.specs.declared.object.Object.{Object}
use Rattle.spec_live.specs.Flags.{has_flag, chown, wizard, quell}
use Rattle.spec_live.specs.Objects.{Entry, dbref_of, nothing, same, is_player, is_program, object_at}
use Rattle.spec_rights.specs.declared.act.Actor.{Actor}
use Rattle.spec_rights.specs.Levels.{master, level_at, owner_at, flag_at, is_player_at, owns, controls_as}
use Rattle.spec_rights.specs.Verdict.{controls, controls_or, is_program_at, may_take_over}
use Rattle.spec_rights.proofs.Lookups.{at_negative}

-- what rights rest on: with them the home, to which an object may always go
pub record Rights : Type 0 where
  pub kind : Kind
  pub owner : Dbref
  pub flags : Flags
  pub level : ℕ
  pub home : Dbref

abbrev pub rights : Object → Rights
rights o = record { kind = o.kind; owner = o.owner; flags = o.flags; level = o.level; home = o.home }

-- the same rights of each object that is there
pub record SameRights (os ps : List Entry) : Type 0 where
  pub at : (n : ℕ) → option_map rights (object_at (dbref_of n) os) ≡ option_map rights (object_at (dbref_of n) ps)

pub same_itself : (os : List Entry) → SameRights os os
same_itself os = record { at = λ n. refl }

rights_at : (os ps : List Entry) (z : ℤ) → SameRights os ps → option_map rights (object_at (record { 0 = z }) os) ≡ option_map rights (object_at (record { 0 = z }) ps)
rights_at os ps (pos n) s = s.at n
rights_at os ps (negsuc k) s = rw (at_negative os k, at_negative ps k) refl

read_rights : {X : Type 0} (f : Rights → X) (none : X) (q : Option Object) → option_map_or (λ o. f (rights o)) q none ≡ option_map_or f (option_map rights q) none
read_rights f none None = refl
read_rights f none (Some o) = refl

-- what is read of rights is the same
pub same_read : {X : Type 0} (f : Rights → X) (none : X) (d : Dbref) (os ps : List Entry) → SameRights os ps →
    option_map_or (λ o. f (rights o)) (object_at d os) none ≡ option_map_or (λ o. f (rights o)) (object_at d ps) none
same_read f none d os ps s =
    read_rights f none (object_at d os) ∙ ap (λ r. option_map_or f r none) (rights_at os ps d.0 s) ∙ sym (read_rights f none (object_at d ps))

pub same_level : (d : Dbref) (os ps : List Entry) → SameRights os ps → level_at os d ≡ level_at ps d
unfolding level_at
same_level d os ps s = same_read (λ r. if has_flag wizard r.flags && not (has_flag quell r.flags) then master else r.level) 0 d os ps s

pub same_owner : (d : Dbref) (os ps : List Entry) → SameRights os ps → owner_at os d ≡ owner_at ps d
unfolding owner_at
same_owner d os ps s = same_read (λ r. r.owner) nothing d os ps s

pub same_flag : (flag : ℕ) (d : Dbref) (os ps : List Entry) → SameRights os ps → flag_at flag os d ≡ flag_at flag ps d
unfolding flag_at
same_flag flag d os ps s = same_read (λ r. has_flag flag r.flags) false d os ps s

pub same_player : (d : Dbref) (os ps : List Entry) → SameRights os ps → is_player_at os d ≡ is_player_at ps d
unfolding is_player_at
same_player d os ps s = same_read (λ r. is_player r.kind) false d os ps s

pub same_program : (d : Dbref) (os ps : List Entry) → SameRights os ps → is_program_at os d ≡ is_program_at ps d
same_program d os ps s = same_read (λ r. is_program r.kind) false d os ps s

pub same_home : (d : Dbref) (os ps : List Entry) → SameRights os ps → option_map_or (λ o. o.home) (object_at d os) nothing ≡ option_map_or (λ o. o.home) (object_at d ps) nothing
same_home d os ps s = same_read (λ r. r.home) nothing d os ps s

pub same_owns : (user d : Dbref) (os ps : List Entry) → SameRights os ps → owns os user d ≡ owns ps user d
unfolding owns
same_owns user d os ps s = same_read (λ r. same r.owner user || (is_player r.kind && same d user)) false d os ps s

pub same_controls : (a : Actor) (d : Dbref) (os ps : List Entry) → SameRights os ps → controls os a d ≡ controls ps a d
unfolding controls controls_as
same_controls a d os ps s = ap (λ b. nat_le master a.level || b) (same_owns a.user d os ps s)

pub same_controls_or : (flag : ℕ) (a : Actor) (d : Dbref) (os ps : List Entry) → SameRights os ps → controls_or flag os a d ≡ controls_or flag ps a d
unfolding controls_or
same_controls_or flag a d os ps s = ap (λ b. b || flag_at flag os d) (same_controls a d os ps s) ∙ ap (λ b. controls ps a d || b) (same_flag flag d os ps s)

pub same_take_over : (a : Actor) (d : Dbref) (os ps : List Entry) → SameRights os ps → may_take_over os a d ≡ may_take_over ps a d
same_take_over a d os ps s = ap (λ o. same o a.user || flag_at chown os d) (same_owner d os ps s) ∙ ap (λ b. same (owner_at ps d) a.user || b) (same_flag chown d os ps s)
