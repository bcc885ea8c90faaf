-- What the parts of playing make, from one place of the recording to another. Only private functions cite this file.
use Rattle.std.specs.Prelude.{◌≡◌, ℕ, ◌+◌, ◌≤◌, cond, nat_lt, string_bytes, Bool, true, false, List, [], ◌++◌, length, drop, Some, None, Option, Result}
use Rattle.channels.specs.Channels.{Tuned}
use Rattle.channels.specs.Layings.{laying_line}
use Rattle.channels.specs.declared.channel.Channel.{Channel}
use Rattle.channels.specs.declared.laying.Laying.{Laying}
use Rattle.cost.specs.declared.kind.Cost as cost
use Rattle.link.specs.Calls.{Memory, Reply, Steals}
use Rattle.link.specs.Histories.{History, begun}
use Rattle.link.specs.declared.receiver.Receiver.{Receiver}
use Rattle.link.specs.declared.refusal.Refusal.{Refusal}
use Rattle.link.specs.declared.report.Report.{Report}
use Rattle.recording.specs.Answers.{Goes}
use Rattle.recording.specs.Kinds.{Weighing}
use Rattle.recording.specs.Lines.{opened_line, fault_written, answer_line, stolen_line, restarted_line, written, all_written}
use Rattle.recording.specs.declared.player.Player.{Player}
use Rattle.records.specs.Recordings.{Spells}
use Rattle.records.specs.Records.{Said, said, opens, hears, misses, steals, restarts, spelling, Stands, Begins, BeginsAlone, BeginsNone}
use Rattle.stations.specs.Stations.{memory, HearsHere, MissesHere, RestartsHere}
use Rattle.records.specs.declared.record.Kind.{Kind}
use Rattle.records.specs.declared.record.Record.{Record}
use Rattle.stations.specs.declared.station.Station.{Station}

-- what has not been played yet
abbrev pub rest : Player → List ℕ
rest p = drop p.at p.bytes.now

-- the lines, with that of the fault where not all has been played
abbrev pub finished : Player → List ℕ
finished p = string_bytes p.lines ++ cond (nat_lt p.at (length p.bytes.now)) (fault_written (Some p.at)) []

-- the bytes are the same as before
abbrev pub Same : Player → Player → Type 0
Same p p' = p'.bytes.now ≡ p.bytes.now

-- nothing has been played yet
pub record Begun (whole : List ℕ) (p : Player) : Type 0 where
  pub bytes : p.bytes.now ≡ whole
  pub at : p.at ≡ 0
  pub lines : string_bytes p.lines ≡ []

-- the record that comes next, and the place where the rest begins; or none comes
abbrev pub Comes : Option Kind → Player → Option (Record × ℕ) → Type 0
Comes opened p (Some (found, after)) = BeginsAlone opened (rest p) (said found) × (after ≡ p.at + length (spelling (said found)))
Comes opened p None = BeginsNone opened (rest p)

-- the opening that comes next has been read
pub record Read (channel : Channel) (kind : Kind) (p p' : Player) : Type 0 where
  pub same : Same p p'
  pub begins : Begins None (rest p) (opens channel kind)
  pub at : p'.at ≡ p.at + length (spelling (opens channel kind))
  pub lines : p'.lines ≡ p.lines

-- or none comes next
abbrev pub Opens : Player → Option (Channel × Kind) → Player → Type 0
Opens p (Some (channel, kind)) p' = Read channel kind p p'
Opens p None p' = BeginsNone None (rest p) × (p' ≡ p)

-- what comes next while a channel is open at that kind is no call
abbrev pub NoCall : Kind → List ℕ → Type 0
NoCall kind bytes = (s : Said) → Begins (Some kind) bytes s → Stands None s

-- a kind of cost, with its name, its samples and its figures
abbrev pub weighed : {C S P : Type 0} → cost.Ghosts C S P → Kind → (List ℕ → List S) → (C → List ℕ) → Weighing
weighed {C} {S} {P} kind named samples figures = record { C = C; S = S; P = P; kind = kind; named = named; samples = samples; figures = figures }

module _ (w : Weighing) where
  -- a call was answered, and the line tells the answer, with the message that the block memory then holds
  pub record Replied (call : Reply w.kind laying_line → Type 0) (after : Station w.C w.S w.P) (line : List ℕ) : Type 0 where
    pub reply : Reply w.kind laying_line
    pub called : call reply
    pub tells : line ≡ answer_line w.figures (length (memory after).block) reply (memory after).block

  -- a stolen burst changes nothing, and the line tells the answer
  pub record StolenReplied (s s' : Station w.C w.S w.P) (line : List ℕ) : Type 0 where
    pub reply : Result ℕ (Refusal (Report w.C w.S w.P))
    pub called : Steals w.kind laying_line s.receiver reply s.receiver
    pub kept : s' ≡ s
    pub tells : line ≡ stolen_line reply

  -- a record as a call of the station, which an opening is not
  abbrev pub Calls : Said → Station w.C w.S w.P → Station w.C w.S w.P → List ℕ → Type 0
  Calls (opens channel kind) s s' line = ⊥
  Calls (hears count bytes) s s' line = Replied (λ reply. HearsHere w.kind (w.samples bytes) s reply s') s' line
  Calls misses s s' line = Replied (λ reply. MissesHere w.kind s reply s') s' line
  Calls steals s s' line = StolenReplied s s' line
  Calls restarts s s' line = RestartsHere w.kind s s' × (line ≡ restarted_line)

  -- a call was made, and its line written after those before
  pub record Wrote (said : Said) (s : Station w.C w.S w.P) (before : List ℕ) (s' : Station w.C w.S w.P) (after : List ℕ) : Type 0 where
    pub line : List ℕ
    pub calls : Calls said s s' line
    pub wrote : after ≡ before ++ written line

  -- whether the record was a call; if not, it is an opening, and nothing was written
  abbrev pub Turns : Said → Station w.C w.S w.P → List ℕ → Bool → Station w.C w.S w.P → List ℕ → Type 0
  Turns said s before true s' after = Wrote said s before s' after
  Turns said s before false s' after = Stands None said × (after ≡ before)

  -- the bytes from one place to another spell calls that the history of a receiver goes on with; what is made is the text of their lines
  pub record Follows (opened : Receiver w.C Laying w.S w.P) (bytes : List ℕ)
      (r : Receiver w.C Laying w.S w.P) (m : Memory w.S w.P) (bursts : List (List w.S))
      (h : History w.kind laying_line opened r m.ring bursts) (at stop : ℕ) (made : List ℕ) : Type 0 where
    pub since : List Said
    pub lines : List (List ℕ)
    pub goes : Goes w opened r m bursts h since lines
    pub spelt : (records : List Said) (fault : Option ℕ) → Spells (Some w.named) stop (drop stop bytes) records fault →
        Spells (Some w.named) at (drop at bytes) (since ++ records) fault
    pub shown : made ≡ all_written lines

  -- all calls that follow an opening of the channel
  pub record CallsAfter (channel : Channel) (bytes : List ℕ) (start : ℕ) (before : List ℕ) (stop : ℕ) (after : List ℕ) : Type 0 where
    pub receiver : Receiver w.C Laying w.S w.P
    pub memory : Memory w.S w.P
    pub made : List ℕ
    pub tuned : Tuned w.kind channel receiver
    pub follows : Follows receiver bytes receiver memory [] (begun memory.ring) start stop made
    pub wrote : after ≡ before ++ made
    pub forward : start ≤ stop
    pub within : stop ≤ length bytes
    pub stops : NoCall w.named (drop stop bytes)

  -- they have been played, and the line of the opening before them
  pub record PlaysCalls (channel : Channel) (p p' : Player) : Type 0 where
    pub same : Same p p'
    pub after : CallsAfter channel p.bytes.now p.at (string_bytes p.lines ++ written (opened_line channel)) p'.at (string_bytes p'.lines)

  -- the same of a player that has written that line already
  pub record PlaysOn (channel : Channel) (p p' : Player) : Type 0 where
    pub same : Same p p'
    pub after : CallsAfter channel p.bytes.now p.at (string_bytes p.lines) p'.at (string_bytes p'.lines)
