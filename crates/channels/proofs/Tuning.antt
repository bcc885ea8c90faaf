-- What is opened for a channel is what the channel sets: a receiver that hears its first row, and a sender that puts what the standard describes.
use Rattle.std.proofs.Common.{◌≡◌, ℕ, ◌<◌, Bool, List, [], ◌↔◌, length, get_or, sym, ap, ◌∙◌, subst}
use Rattle.cost.specs.declared.kind.Cost as cost
use Rattle.link.specs.BothEnds.{Alike}
use Rattle.link.specs.Opening.{Holds, Opened, SenderOpened}
use Rattle.link.specs.declared.format.Format.{Format}
use Rattle.link.specs.Streams.{Stream, BurstOf}
use Rattle.link.specs.declared.proposal.Proposal.{Proposal}
use Rattle.link.specs.declared.receiver.Receiver.{Receiver}
use Rattle.link.specs.declared.sender.Sender.{Sender}
use Rattle.channels.specs.Channels.{Lays, Proposes, Tuned, TunedSender, terms, asked}
use Rattle.channels.specs.Layings.{laying_line}
use Rattle.channels.specs.Standard.{StandardBurst, standard}
use Rattle.channels.specs.declared.channel.Channel.{Channel}
use Rattle.channels.specs.declared.laying.Laying.{Laying}
use Rattle.channels.proofs.FirstRows.{first_row}
use Rattle.channels.proofs.StandardBursts.{same_burst}

-- two formats that hold what one channel sets are alike
understood : (channel : Channel) (x y : Laying) → Lays (terms channel) x → Lays (terms channel) y → (f g : Format Laying) →
    Holds laying_line (asked (terms channel) x) f → Holds laying_line (asked (terms channel) y) g → Alike laying_line f g
understood channel x y lays_x lays_y f g held_f held_g = record {
  code = held_f.code ∙ sym held_g.code;
  message = held_f.message ∙ sym held_g.message;
  parity = held_f.parity ∙ sym held_g.parity;
  depth = held_f.depth ∙ sym held_g.depth;
  burst = held_f.burst ∙ lays_x.burst ∙ sym (held_g.burst ∙ lays_y.burst);
  places = λ j.
      ap (λ z. laying_line.place z j) held_f.line ∙ lays_x.places j ∙ sym (ap (λ z. laying_line.place z j) held_g.line ∙ lays_y.places j);
}

module _ (channel : Channel) (p : Proposal Laying) (proposed : Proposes channel p) where
  -- a receiver opened with a channel's proposal
  pub tuned : {C S P : Type 0} (k : cost.Ghosts C S P) (r : Receiver C Laying S P) → Opened k laying_line p r → Tuned k channel r
  tuned k r opened =
      let here = subst (λ q. Opened k laying_line q r) proposed.asks opened in
      record {
        line = p.line;
        lays = proposed.lays;
        opened = here;
        first_row = first_row channel p.line proposed.lays r.format here.format;
        understands = λ s sender. understood channel sender.line p.line sender.lays proposed.lays s.format r.format sender.opened.format here.format;
      }

  module _ (s : Sender Laying) (opened : SenderOpened laying_line p s) where
    -- a sender opened with it, by the channel's terms
    here : SenderOpened laying_line (asked (terms channel) p.line) s
    here = subst (λ q. SenderOpened laying_line q s) proposed.asks opened

    module _ (s' : Sender Laying) (ring : List ℕ) (messages : List (List Bool)) (bursts : List (List ℕ)) (n : ℕ)
        (past : Stream laying_line s s' ring messages bursts) (h : n < length messages) where
      -- the burst of its number is what the standard describes
      both : (burst : List ℕ) → BurstOf laying_line s.format messages n burst ↔ StandardBurst (standard channel) messages n burst
      both burst = same_burst channel p.line s.format here.format proposed.lays.burst proposed.lays.places messages n h burst
          (here.streams.puts s' ring messages bursts past).lengths

      -- so what is put is
      put : StandardBurst (standard channel) messages n (get_or bursts n [])
      put = (both (get_or bursts n [])).0 ((here.streams.puts s' ring messages bursts past).each n h)

      -- and nothing else
      put_only : (burst : List ℕ) → StandardBurst (standard channel) messages n burst → burst ≡ get_or bursts n []
      put_only burst described = here.streams.only s' ring messages bursts n burst past h ((both burst).1 described)

    -- so it puts exactly that
    pub tuned_sender : TunedSender channel s
    tuned_sender = record {
      line = p.line;
      lays = proposed.lays;
      opened = here;
      described = put;
      only = put_only;
    }
