-- A call does what its rules say: refused by the first that is broken, else its burst is taken in.
use Rattle.std.proofs.Common.{◌≡◌, ℕ, ◌+◌, List, map, Some, None, Ok, Err, Option, sym, refl, ap, subst, ◌∙◌, arith}
use Rattle.std.specs.declared.convert.Infallible.{Infallible}
use Rattle.cost.specs.declared.kind.Cost as cost
use Rattle.line.specs.declared.laying.Line as line
use Rattle.link.specs.declared.receiver.Receiver.{Receiver}
use Rattle.link.specs.declared.refusal.Refusal.{Refusal}
use Rattle.link.specs.declared.report.Report.{Report}
use Rattle.link.specs.Calls.{Memory, Reply, Counts, Judges}
use Rattle.link.specs.declared.sender.Sender.{Sender}
use Rattle.link.specs.Due.{laid_at, stored}
use Rattle.link.specs.Refusals.{Told, told, refusal}
use Rattle.link.specs.Sending.{SenderMemory, SendReply, BlockByPlace, BurstFromRing, SendsBy}
use Rattle.trellis.specs.Bits.{odd}

module _ {C S P L : Type 0} (k : cost.Ghosts C S P) (l : line.Ghosts L) (samples : List S) (r : Receiver C L S P) (m : Memory S P) (reply : Reply k l) where
  -- where a check refuses, the call that hands its refusal on and does no more is refused
  pub judges_refused : (rules : Option Told) (x : Refusal (Report C S P)) → Some (told x) ≡ rules → reply ≡ Err x →
      Judges k l rules samples r m reply r m
  judges_refused None x e h = let z : ◌≡◌ {A = ℕ} 0 1 = cc in absurd (omega arith)
  judges_refused (Some t) x e h = record { replied = ap refusal h ∙ e; receiver = refl; memory = refl }

  -- where the checks pass, the call that stores the burst and then counts it takes it in
  pub judges_taken : (rules : Option Told) (ring : List S) (r' : Receiver C L S P) (m' : Memory S P) → None ≡ rules →
      ring ≡ stored r.format r.counted samples m.ring → m'.ring ≡ ring →
      Counts k l r (record m { ring = ring }) reply r' m' → Judges k l rules samples r m reply r' m'
  judges_taken None ring r' m' e is kept counts = record {
    ring = kept ∙ is;
    counts = subst (λ z. Counts k l r (record m { ring = z }) reply r' m') (sym kept) counts;
  }
  judges_taken (Some t) ring r' m' e is kept counts = let z : ◌≡◌ {A = ℕ} 0 1 = cc in absurd (omega arith)

module _ {L : Type 0} (l : line.Ghosts L) (message : List ℕ) (s : Sender L) (m : SenderMemory) where
  -- where a check refuses, the send that hands its refusal on and does no more is refused
  pub sends_refused : (reply : SendReply) (rules : Option Told) (x : Refusal Infallible) → Some (told x) ≡ rules → reply ≡ Err x →
      SendsBy l rules message s m reply s m
  sends_refused reply None x e h = let z : ◌≡◌ {A = ℕ} 0 1 = cc in absurd (omega arith)
  sends_refused reply (Some t) x e h = record { replied = ap refusal h ∙ e; sender = refl; memory = refl }

  -- where the checks pass, the send that keeps the block in the ring and puts the burst sends it
  pub sends_taken : (ring burst : List ℕ) (rules : Option Told) → None ≡ rules →
      (block : List ℕ) × BlockByPlace l s.format (map odd message) block × (ring ≡ stored s.format s.counted block m.ring) →
      (row : List ℕ) × BurstFromRing l s.format s.counted ring row × (burst ≡ laid_at 0 row m.burst) →
      SendsBy l rules message s m (Ok s.counted) (record s { counted = s.counted + 1 }) (record { ring = ring; burst = burst })
  sends_taken ring burst None e (block, interleaved, kept) (row, spread, put) = record {
    replied = refl;
    format = refl;
    counted = refl;
    block = block;
    interleaved = interleaved;
    ring = kept;
    burst = row;
    spread = spread;
    put = put;
  }
  sends_taken ring burst (Some t) e keeps puts = let z : ◌≡◌ {A = ℕ} 0 1 = cc in absurd (omega arith)
