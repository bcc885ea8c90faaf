-- Playing what is left of a recording, from one opening to the next.
use Rattle.std.proofs.Common.{◌≡◌, ℕ, ◌+◌, ◌<◌, ◌≤◌, Bool, true, false, List, [], ◌∷◌, ◌++◌, length, drop, Some, None, Option, cond, nat_lt, string_bytes, sym, refl, ap, ◌∙◌, subst, append_assoc, append-nil, arith}
use Rattle.std.proofs.lemmas.Bool.{ltb-true, ltb-false}
use Rattle.std.proofs.lemmas.List.Concat.{flat_map-append}
use Rattle.std.proofs.lemmas.List.{drop_all, drop-drop, length-drop}
use Rattle.channels.specs.declared.channel.Channel.{Channel}
use Rattle.recording.specs.Answers.{Tells, silent, opening, Played}
use Rattle.recording.specs.Kinds.{weighing}
use Rattle.recording.specs.Lines.{opened_line, written, all_written, fault_written}
use Rattle.recording.specs.Playing.{rest, finished, Read, CallsAfter, PlaysCalls}
use Rattle.recording.specs.declared.player.Player.{Player}
use Rattle.records.specs.Recordings.{Spells, ends, faults, says}
use Rattle.records.specs.Records.{Said, opens, Stands, Begins, BeginsNone}
use Rattle.records.specs.declared.record.Kind.{Kind}
use Rattle.records.specs.declared.record.Kind.TheVariants as kinds

-- what stands before any opening stands anywhere
stands_anywhere : (opened : Option Kind) (s : Said) → Stands None s → Stands opened s
stands_anywhere opened (opens channel kind) h = tt
stands_anywhere opened s h = absurd h

-- a kind is weighed under its own name
named_so : (kind : Kind) → (weighing kind).named ≡ kind
named_so kinds.Count = refl
named_so kinds.Ranked = refl
named_so kinds.Float = refl

module _ (bytes : List ℕ) where
  -- what the bytes from a place on make, where a channel has been opened or none
  pub record Rest (opened : Option Kind) (at : ℕ) (made : List ℕ) : Type 0 where
    pub records : List Said
    pub fault : Option ℕ
    pub lines : List (List ℕ)
    pub spelt : Spells opened at (drop at bytes) records fault
    pub told : Tells records lines
    pub shown : made ≡ all_written lines ++ fault_written fault

  -- how far playing has come: what comes next is no call, and the text so far and what is left to play give the whole
  pub record Playing (at : ℕ) (so_far : List ℕ) : Type 0 where
    pub opened : Option Kind
    pub within : at ≤ length bytes
    pub waits : (s : Said) → Begins opened (drop at bytes) s → Stands None s
    pub gives : (made : List ℕ) → Rest opened at made → Played bytes (so_far ++ made)

  -- where nothing is left, the text so far is the whole
  pub playing_done : (at : ℕ) (so_far : List ℕ) → Playing at so_far → length bytes ≤ at → Played bytes so_far
  playing_done at so_far p h =
      subst (λ t. Played bytes t) (append-nil so_far) (p.gives [] (record {
        records = [];
        fault = None;
        lines = [];
        spelt = subst (λ b. Spells p.opened at b [] None) (sym (drop_all at bytes h)) (ends p.opened at);
        told = silent;
        shown = refl;
      }))

  -- where no opening stands, the text so far and the fault's line are the whole
  pub playing_fault : (at : ℕ) (so_far : List ℕ) → Playing at so_far → at < length bytes →
      BeginsNone None (drop at bytes) → Played bytes (so_far ++ fault_written (Some at))
  playing_fault at so_far p h none =
      p.gives (fault_written (Some at)) (record {
        records = [];
        fault = Some at;
        lines = [];
        spelt = faults p.opened at (drop at bytes) (omega (arith, length-drop at bytes)) (λ s b. none s (record { stands = p.waits s b; spelt = b.spelt }));
        told = silent;
        shown = refl;
      })

  -- an opening is played with the calls that follow it
  pub playing_after : (at stop : ℕ) (channel : Channel) (kind : Kind) (so_far after : List ℕ) → Playing at so_far → Begins None (drop at bytes) (opens channel kind) →
      CallsAfter (weighing kind) channel bytes (at + 4) (so_far ++ written (opened_line channel)) stop after → Playing stop after
  playing_after at stop channel kind so_far after p b h =
      let f = h.follows in
      let line = written (opened_line channel) in
      record {
        opened = Some (weighing kind).named;
        within = h.within;
        waits = h.stops;
        gives = λ made left.
            subst (λ t. Played bytes t)
            (sym (append_assoc so_far line (h.made ++ made)) ∙ sym (append_assoc (so_far ++ line) h.made made) ∙ ap (λ t. t ++ made) (sym h.wrote))
            (p.gives (line ++ (h.made ++ made)) (record {
              records = opens channel kind ∷ (f.since ++ left.records);
              fault = left.fault;
              lines = opened_line channel ∷ (f.lines ++ left.lines);
              spelt =
                  says p.opened at (drop at bytes) (opens channel kind) (f.since ++ left.records) left.fault
                  (record { stands = stands_anywhere p.opened (opens channel kind) b.stands; spelt = b.spelt })
                  (subst (λ k. Spells (Some k) (at + 4) (drop 4 (drop at bytes)) (f.since ++ left.records) left.fault) (named_so kind)
                  (subst (λ t. Spells (Some (weighing kind).named) (at + 4) t (f.since ++ left.records) left.fault) (sym (drop-drop 4 at bytes))
                  (f.spelt left.records left.fault left.spelt)));
              told = opening channel kind h.receiver h.memory f.since left.records f.lines left.lines h.tuned f.goes left.told;
              shown =
                  ap (λ t. line ++ t)
                  (ap (λ t. t ++ made) f.shown ∙ ap (λ t. all_written f.lines ++ t) left.shown
                  ∙ sym (append_assoc (all_written f.lines) (all_written left.lines) (fault_written left.fault))
                  ∙ ap (λ t. t ++ fault_written left.fault) (sym (flat_map-append written f.lines left.lines)))
                  ∙ sym (append_assoc line (all_written (f.lines ++ left.lines)) (fault_written left.fault));
            }));
      }

  -- how far a player of these bytes has come
  pub record PlayingBy (p : Player) : Type 0 where
    pub same : p.bytes.now ≡ bytes
    pub playing : Playing p.at (string_bytes p.lines)

  -- an opening and the calls after it are played
  pub after_by : (p q r : Player) (channel : Channel) (kind : Kind) → PlayingBy p → Read channel kind p q → PlaysCalls (weighing kind) channel q r → PlayingBy r
  after_by p q r channel kind i o h =
      let After = CallsAfter (weighing kind) in
      let line = written (opened_line channel) in
      let made = string_bytes r.lines in
      let whole = o.same ∙ i.same in
      let after : After channel bytes (p.at + 4) (string_bytes p.lines ++ line) r.at made =
      subst (λ b. After channel b (p.at + 4) (string_bytes p.lines ++ line) r.at made) whole
      (subst (λ n. After channel q.bytes.now n (string_bytes p.lines ++ line) r.at made) o.at
      (subst (λ t. After channel q.bytes.now q.at (string_bytes t ++ line) r.at made) o.lines h.after)) in
      record {
        same = h.same ∙ whole;
        playing =
            playing_after p.at r.at channel kind (string_bytes p.lines) made i.playing
            (subst (λ b. Begins None (drop p.at b) (opens channel kind)) i.same o.begins) after;
      }

  -- where no opening comes next, the lines with that of the fault are the whole
  finished_so : (p : Player) → PlayingBy p → BeginsNone None (rest p) → (more : Bool) → nat_lt p.at (length bytes) ≡ more →
      Played bytes (string_bytes p.lines ++ cond more (fault_written (Some p.at)) [])
  finished_so p i none true e =
      playing_fault p.at (string_bytes p.lines) i.playing (ltb-true p.at (length bytes) e)
      (subst (λ b. BeginsNone None (drop p.at b)) i.same none)
  finished_so p i none false e =
      subst (λ t. Played bytes t) (sym (append-nil (string_bytes p.lines)))
      (playing_done p.at (string_bytes p.lines) i.playing (ltb-false p.at (length bytes) e))

  pub finished_by : (p : Player) → PlayingBy p → BeginsNone None (rest p) → Played bytes (finished p)
  finished_by p i none =
      subst (λ b. Played bytes (string_bytes p.lines ++ cond (nat_lt p.at (length b)) (fault_written (Some p.at)) [])) (sym i.same)
      (finished_so p i none (nat_lt p.at (length bytes)) refl)
