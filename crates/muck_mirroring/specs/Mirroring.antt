-- What a call for `mirror` comes to.
use Rattle.std.specs.Prelude.{◌≡◌, ◌⊎◌, ℕ, ◌≤◌, ◌^◌, Bool, true, List, ◌++◌, length, codes, Option, Some, None, Ok, Err}
use Rattle.muck_io.specs.Sink.{Appends, AppendsFront}
use Rattle.muck_io.specs.Faults.{Rose}
use Rattle.muck_log.specs.Store.{Chosen, store_of, pick}
use Rattle.muck_follow.specs.declared.act.Act.{Act}
use Rattle.muck_follow.specs.Script.{mirror_script_of}
use Rattle.muck_follow.specs.Following.{script_replies}
use Rattle.muck_follow.specs.Fronts.{AreBytes, FollowsFront}
use Rattle.muck_run.specs.Outcome.{IsReadOut, IsUntouched}
use Rattle.muck_why.specs.declared.why.Why.{Why}
use Rattle.muck_why.specs.declared.why.Why.TheVariants.{Fine, BadScript, NoMemory, ReadFault, WriteFault, DiskFault, Damaged}
use Rattle.muck_why.specs.Causes.{admitted, row_of}

-- what was left in the source is this script of a mirror, where the source tells its bytes
abbrev pub IsMirrorScriptIn : Option (List ℕ) → List Act → Type 0
IsMirrorScriptIn None acts = Unit {0}
IsMirrorScriptIn (Some bytes) acts = mirror_script_of bytes ≡ Ok acts

-- the line of this number is the first that is outside the grammar of a mirror
abbrev pub IsFirstOutsideMirror : Option (List ℕ) → ℕ → Type 0
IsFirstOutsideMirror None line = Unit {0}
IsFirstOutsideMirror (Some bytes) line = mirror_script_of bytes ≡ Err line

-- what was left in the source is a script of a mirror, and the source tells so
abbrev pub IsMirrorScriptLeft : Option (List ℕ) → Type 0
IsMirrorScriptLeft None = ⊥
IsMirrorScriptLeft (Some bytes) = (acts : List Act) × (mirror_script_of bytes ≡ Ok acts)

-- what a call that has read its script says of the source
pub record HasReadMirrorScript {S : Type 0} (left : S → Option (List ℕ)) (faults : S → ℕ) (before now : S) (acts : List Act) : Type 0 where
  pub script : IsMirrorScriptIn (left before) acts
  pub read : IsReadOut (left before) (left now)
  pub fine : faults now ≡ faults before

-- all of this text was written where the work was done, else a front of it
abbrev pub HasWrittenReplies : Why → Option (List ℕ) → Option (List ℕ) → List ℕ → Type 0
HasWrittenReplies Fine before now text = Appends before now text
HasWrittenReplies why before now text = AppendsFront before now text

-- The two files hold a store. What was written are the replies to these lines, of the mirror of the batches of the file that counts; and behind these lines that mirror holds the stored
-- world of the first m batches, where m is the greatest number such that each of these was fed.
pub record AreReplies (a b : List ℕ) (why : Why) (acts : List Act) (before now : Option (List ℕ)) : Type 0 where
  pub chosen : Chosen
  pub loads : store_of a b ≡ Ok chosen
  pub text : HasWrittenReplies why before now (script_replies acts chosen (pick chosen.second a b))
  pub holds : AreBytes (pick chosen.second a b) → length (pick chosen.second a b) ≤ 2 ^ 63 → FollowsFront acts chosen (pick chosen.second a b)

-- The files STORE.a and STORE.b of this store are the two disks, a script was read, and the store was followed by its lines.
pub record HasFollowed {S K D : Type 0} (left : S → Option (List ℕ)) (faults : S → ℕ) (written : K → Option (List ℕ)) (tells : Bool) (attached : D → Option (List ℕ)) (seen : D → List ℕ)
    (store : List ℕ) (why : Why) (s t : S) (k l : K) (first second first' second' : D) : Type 0 where
  pub acts : List Act
  pub read : HasReadMirrorScript left faults s t acts
  pub first_name : tells ≡ true → attached first' ≡ Some (store ++ codes ".a")
  pub second_name : tells ≡ true → attached second' ≡ Some (store ++ codes ".b")
  pub replies : tells ≡ true → AreReplies (seen first) (seen second) why acts (written k) (written l)

-- Which of the two is so, by the answer: nothing was written to the sink, or the store was followed. No other answer comes.
abbrev pub MirrorsAs : Why → Type 0 → Type 0 → Type 0
MirrorsAs why silent followed = admitted (row_of why).mirror silent followed

-- A call for `mirror`, by its answer.
pub record MirrorDone {S K D : Type 0} (left : S → Option (List ℕ)) (faults : S → ℕ) (written : K → Option (List ℕ)) (breaks : K → ℕ)
    (tells : Bool) (attached : D → Option (List ℕ)) (seen : D → List ℕ) (moment : D → ℕ) (images : D → ℕ → List ℕ → Type 0) (fails : D → ℕ) (store : List ℕ) (why : Why)
    (s t : S) (k l : K) (first second first' second' : D) : Type 0 where
  -- what was written
  pub ends : MirrorsAs why (l ≡ k) (HasFollowed left faults written tells attached seen store why s t k l first second first' second')
  -- the store is as it was: nothing was written to its files
  pub first_file : tells ≡ true → IsUntouched seen moment images first first'
  pub second_file : tells ≡ true → IsUntouched seen moment images second second'
  -- each answer but `Fine` and want of memory has its cause
  pub bad_script : (line : ℕ) → why ≡ BadScript line → IsFirstOutsideMirror (left s) line
  pub read_fault : why ≡ ReadFault → Rose (faults s) (faults t)
  pub write_fault : why ≡ WriteFault → Rose (breaks k) (breaks l)
  pub disk_fault : why ≡ DiskFault → Rose (fails first) (fails first') ⊎ Rose (fails second) (fails second')
  pub damaged : (file : Bool) (at : ℕ) → tells ≡ true → why ≡ Damaged file at → store_of (seen first) (seen second) ≡ Err (record { second = file; at = at })
  -- the first cause stands: no other fault of the source or the sink came, and the store was mounted before the script was read
  pub source_stands : (why ≡ ReadFault → ⊥) → faults t ≡ faults s
  pub sink_stands : (why ≡ WriteFault → ⊥) → breaks l ≡ breaks k
  pub unread : (file : Bool) (at : ℕ) → why ≡ Damaged file at → t ≡ s
  pub loads : tells ≡ true → (why ≡ ReadFault) ⊎ ((line : ℕ) × (why ≡ BadScript line)) → (chosen : Chosen) × (store_of (seen first) (seen second) ≡ Ok chosen)
  -- where a store loads, the script is inside the grammar and no count rose, the work was done or memory was wanted
  pub complete : (chosen : Chosen) → tells ≡ true → store_of (seen first) (seen second) ≡ Ok chosen → IsMirrorScriptLeft (left s) → (Rose (faults s) (faults t) → ⊥) → (Rose (breaks k) (breaks l) → ⊥)
      → (Rose (fails first) (fails first') → ⊥) → (Rose (fails second) (fails second') → ⊥) → (why ≡ Fine) ⊎ (why ≡ NoMemory)
