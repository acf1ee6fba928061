-- A player that is let in has that name, and the digest of that password.
use Rattle.std.proofs.Common.{◌≡◌, ℕ, Bool, true, false, cond, ◌&&◌, List, [], ◌∷◌, refl, sym, ◌∙◌, ap, Option, Some, None}
use Rattle.std.proofs.lemmas.Bool.{and_parts}
use Rattle.std.proofs.lemmas.Option.{none-some, same_Some}
use Rattle.std.specs.List.{find}
use Rattle.std.specs.Option.{option_map, option_map_or, option_and_then}
use Rattle.std.specs.Str.{str_eq_ignore_ascii_case}
use Rattle.muck_model.specs.declared.dbref.Dbref.{Dbref}
use Rattle.muck_match.specs.Words.{is_same}
use Rattle.muck_match.specs.Scenery.{is_player, Sight, numbers}
use Rattle.muck_match.specs.Naming.{is_player_named, player_named}
use Rattle.spec_live.specs.declared.object.Object.{Object}
use Rattle.spec_live.specs.Objects.{Entry, object_at}
use Rattle.spec_live.specs.Password.{is_digest_of}
use Rattle.spec_live.specs.Seen.{sight_of, scenery_of}
use Rattle.spec_live.proofs.PasswordLaws.{is_hashed}
use Rattle.spec_commands.specs.Talk.{proved}
use Rattle.spec_events.specs.Passwords.{HasPassword}

found_so : (p : Dbref → Bool) (ds : List Dbref) (d : Dbref) → find p ds ≡ Some d → p d ≡ true
found_so p [] d h = absurd (none-some d h)
found_so p (x ∷ ds) d h = at (p x) refl (found_so p ds d) h
  where
    at : (b : Bool) → p x ≡ b → (find p ds ≡ Some d → p d ≡ true) → cond b (Some x) (find p ds) ≡ Some d → p d ≡ true
    at true e next k = ap p (sym (same_Some x d k)) ∙ e
    at false e next k = next k

-- who is meant by a name has it
called_so : (name : List ℕ) (es : List Entry) (player : Dbref) (o : Object) → player_named (scenery_of es) name ≡ Some player → object_at player es ≡ Some o → str_eq_ignore_ascii_case name o.name ≡ true
unfolding player_named scenery_of is_same
called_so name es player o named there =
    let fits : is_player_named name (scenery_of es) player ≡ true = found_so (is_player_named name (scenery_of es)) (numbers (scenery_of es)) player named in
    let seen : option_map_or (λ (s : Sight). is_player s.kind && is_same name s.name) (option_map sight_of (object_at player es)) false ≡ (is_player o.kind && is_same name o.name) =
    ap (λ q. option_map_or (λ (s : Sight). is_player s.kind && is_same name s.name) (option_map sight_of q) false) there in
    (and_parts (is_player o.kind) (is_same name o.name) (sym seen ∙ fits)).1

opened_by : (name password : List ℕ) (es : List Entry) (player x : Dbref) → player_named (scenery_of es) name ≡ Some x → (o : Option Object) → object_at x es ≡ o →
    cond (option_map_or (λ (o : Object). is_digest_of password o.digest) o false) (Some x) None ≡ Some player → HasPassword name password player es
opened_by name password es player x named None there h = absurd (none-some player h)
opened_by name password es player x named (Some o) there h = at (is_digest_of password o.digest) refl h
  where
    at : (b : Bool) → is_digest_of password o.digest ≡ b → ◌≡◌ {A = Option Dbref} (cond b (Some x) None) (Some player) → HasPassword name password player es
    at true e k =
        let same : x ≡ player = same_Some x player k in
        let hashed = is_hashed password o.digest e in
        let is_named : player_named (scenery_of es) name ≡ Some player = named ∙ ap Some same in
        let is_there : object_at player es ≡ Some o = ap (λ d. object_at d es) (sym same) ∙ there in
        record { named = is_named; object = o; there = is_there; called = called_so name es player o is_named is_there; salt = hashed.0; eight = hashed.1; digest = hashed.2 }
    at false e k = absurd (none-some player k)

pub has_password : (name password : List ℕ) (es : List Entry) (player : Dbref) → proved name password es ≡ Some player → HasPassword name password player es
unfolding proved
has_password name password es player = at (player_named (scenery_of es) name) refl
  where
    at : (q : Option Dbref) → player_named (scenery_of es) name ≡ q → option_and_then (λ x. cond (option_map_or (λ (o : Object). is_digest_of password o.digest) (object_at x es) false) (Some x) None) q ≡ Some player → HasPassword name password player es
    at None named h = absurd (none-some player h)
    at (Some x) named h = opened_by name password es player x named (object_at x es) refl h
