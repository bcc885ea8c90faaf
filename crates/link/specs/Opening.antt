-- What opening makes of what it is handed.
use Rattle.std.specs.Prelude.{◌≡◌, Some, None, Ok, Err, Result}
use Rattle.std.specs.declared.convert.Infallible.{Infallible}
use Rattle.cost.specs.declared.kind.Cost as cost
use Rattle.line.specs.declared.laying.Line as line
use Rattle.link.specs.declared.format.Format.{Format}
use Rattle.link.specs.declared.proposal.Proposal.{Proposal}
use Rattle.link.specs.declared.receiver.Receiver.{Receiver}
use Rattle.link.specs.declared.refusal.Refusal.{Refusal}
use Rattle.link.specs.declared.report.Report.{Report}
use Rattle.link.specs.declared.sender.Sender.{Sender}
use Rattle.link.specs.BothEnds.{AllAsSent}
use Rattle.link.specs.Histories.{AllSound}
use Rattle.link.specs.Refusals.{told}
use Rattle.link.specs.Rules.{first, open_rules}
use Rattle.link.specs.Streams.{AllStreams}

-- the format has what was asked for, and the burst bits that the line tells
pub record Holds {L : Type 0} (l : line.Ghosts L) (a : Proposal L) (f : Format L) : Type 0 where
  pub code : f.code ≡ a.code
  pub message : f.message ≡ a.message
  pub parity : f.parity ≡ a.parity
  pub depth : f.depth ≡ a.depth
  pub line : f.line ≡ a.line
  pub burst : f.burst ≡ l.sent a.line

-- refused by the first rule that is broken, else agreed
abbrev pub Agrees : {B L : Type 0} → line.Ghosts L → Proposal L → Result (Format L) (Refusal B) → Type 0
Agrees l a (Err x) = first (open_rules l a) ≡ Some (told x)
Agrees l a (Ok f) = (first (open_rules l a) ≡ None) × Holds l a f

module _ {C S P L : Type 0} (k : cost.Ghosts C S P) (l : line.Ghosts L) (a : Proposal L) where
  -- a receiver that has counted nothing, of which every history is sound, and which answers what it hears clean as it was sent
  pub record Opened (r : Receiver C L S P) : Type 0 where
    pub rules : first (open_rules l a) ≡ None
    pub format : Holds l a r.format
    pub counted : r.counted ≡ 0
    pub histories : AllSound k l r
    pub both_ends : AllAsSent k l r

  abbrev pub Opens : Result (Receiver C L S P) (Refusal (Report C S P)) → Type 0
  Opens (Err x) = first (open_rules l a) ≡ Some (told x)
  Opens (Ok r) = Opened r

module _ {L : Type 0} (l : line.Ghosts L) (a : Proposal L) where
  -- a sender that has counted nothing, and of which every history is sound
  pub record SenderOpened (s : Sender L) : Type 0 where
    pub rules : first (open_rules l a) ≡ None
    pub format : Holds l a s.format
    pub counted : s.counted ≡ 0
    pub streams : AllStreams l s

  abbrev pub SenderOpens : Result (Sender L) (Refusal Infallible) → Type 0
  SenderOpens (Err x) = first (open_rules l a) ≡ Some (told x)
  SenderOpens (Ok s) = SenderOpened s
