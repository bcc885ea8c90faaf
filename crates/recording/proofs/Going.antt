-- The calls after an opening, played one after the other: the history goes on with each, and its line is written.
use Rattle.std.proofs.Common.{◌≡◌, ℕ, ◌+◌, ◌≤◌, List, [], ◌∷◌, ◌++◌, length, drop, None, Some, Option, string_bytes, sym, refl, ap, ◌∙◌, subst, append_assoc, append-nil, arith, length-take}
use Rattle.std.proofs.lemmas.List.{drop-drop, length-drop}
use Rattle.std.proofs.lemmas.Bool.{le-leb}
use Rattle.channels.specs.Channels.{Tuned}
use Rattle.channels.specs.Layings.{laying_line}
use Rattle.channels.specs.declared.channel.Channel.{Channel}
use Rattle.channels.specs.declared.laying.Laying.{Laying}
use Rattle.link.specs.Calls.{Memory, sizes, Reply, silence}
use Rattle.link.specs.Histories.{History, begun, heard, missed, stole, restarted, counting, AllSound}
use Rattle.link.specs.Rules.{first, memory_rules, needed}
use Rattle.link.specs.declared.format.Format.{Format}
use Rattle.link.specs.declared.receiver.Receiver.{Receiver}
use Rattle.recording.specs.Answers.{Enough, Goes, ends, hearing, missing, stealing, restarting}
use Rattle.recording.specs.Kinds.{Weighing}
use Rattle.recording.specs.Lines.{answer_line, stolen_line, restarted_line, written}
use Rattle.recording.specs.Playing.{rest, NoCall, Same, Wrote, Follows, CallsAfter}
use Rattle.recording.specs.declared.player.Player.{Player}
use Rattle.records.specs.Recordings.{open_after, Spells, says}
use Rattle.records.specs.Records.{Said, opens, hears, misses, steals, restarts, spelling, Begins}
use Rattle.records.specs.declared.record.Kind.{Kind}
use Rattle.stations.specs.Stations.{memory}
use Rattle.stations.specs.declared.station.Station.{Station}

-- a record is no longer than the bytes that begin with it
begins_within : (opened : Option Kind) (bytes : List ℕ) (s : Said) → Begins opened bytes s → length (spelling s) ≤ length bytes
begins_within opened bytes s b = omega (arith, length-take (length (spelling s)) bytes, ap length b.spelt)

-- memory of the sizes needed is enough
needed_enough : {L : Type 0} (f : Format L) → first (memory_rules f (needed f)) ≡ None
needed_enough f =
    simp (
      le-leb (needed f).ring (needed f).ring (omega arith),
      le-leb (needed f).costs (needed f).costs (omega arith),
      le-leb (needed f).paths (needed f).paths (omega arith),
      le-leb (needed f).block (needed f).block (omega arith),
    )

module _ (w : Weighing) (opened : Receiver w.C Laying w.S w.P) (bytes : List ℕ) (start : ℕ) (m₀ : Memory w.S w.P) where
  -- how far the calls have come: the history so far, and the text so far, which with what follows gives all of it
  pub record Going (r : Receiver w.C Laying w.S w.P) (m : Memory w.S w.P) (at : ℕ) (before text : List ℕ) : Type 0 where
    pub bursts : List (List w.S)
    pub history : History w.kind laying_line opened r m.ring bursts
    pub room : sizes m ≡ needed opened.format
    pub forward : start ≤ at
    pub within : at ≤ length bytes
    pub so_far : List ℕ
    pub wrote : text ≡ before ++ so_far
    pub gives : (stop : ℕ) (made : List ℕ) → Follows w opened bytes r m bursts history at stop made →
        Follows w opened bytes opened m₀ [] (begun m₀.ring) start stop (so_far ++ made)

  -- memory so large is enough
  enough : (m : Memory w.S w.P) → sizes m ≡ needed opened.format → Enough w opened m
  enough m e =
      record { room = e; rules = subst (λ z. first (memory_rules opened.format z) ≡ None) (sym e) (needed_enough opened.format) }

  -- a call goes on with them
  goes_on : (r r' : Receiver w.C Laying w.S w.P) (m m' : Memory w.S w.P) (at : ℕ) (before text text' : List ℕ) (s : Said) (line : List ℕ)
      (g : Going r m at before text) (bursts : List (List w.S)) (h : History w.kind laying_line opened r' m'.ring bursts) →
      sizes m' ≡ sizes m → Begins (Some w.named) (drop at bytes) s → open_after (Some w.named) s ≡ Some w.named → text' ≡ text ++ written line →
      ((since : List Said) (lines : List (List ℕ)) → Goes w opened r' m' bursts h since lines → Goes w opened r m g.bursts g.history (s ∷ since) (line ∷ lines)) →
      Going r' m' (at + length (spelling s)) before text'
  goes_on r r' m m' at before text text' s line g bursts h same b stays wrote goes =
      let n = length (spelling s) in
      let whole = g.so_far in
      record {
        bursts = bursts;
        history = h;
        room = same ∙ g.room;
        forward = let f = g.forward in omega arith;
        within = let i = g.within in omega (arith, begins_within (Some w.named) (drop at bytes) s b, length-drop at bytes);
        so_far = whole ++ written line;
        wrote = wrote ∙ ap (λ t. t ++ written line) g.wrote ∙ append_assoc before whole (written line);
        gives = λ stop made f.
            subst (λ t. Follows w opened bytes opened m₀ [] (begun m₀.ring) start stop t) (sym (append_assoc whole (written line) made))
            (g.gives stop (written line ++ made) (record {
              since = s ∷ f.since;
              lines = line ∷ f.lines;
              goes = goes f.since f.lines f.goes;
              spelt = λ records fault left.
                  says (Some w.named) at (drop at bytes) s (f.since ++ records) fault b
                  (subst (λ o. Spells o (at + n) (drop n (drop at bytes)) (f.since ++ records) fault) (sym stays)
                  (subst (λ t. Spells (Some w.named) (at + n) t (f.since ++ records) fault) (sym (drop-drop n at bytes)) (f.spelt records fault left)));
              shown = ap (λ t. written line ++ t) f.shown;
            }));
      }

  -- the line of an answer, with a message as long as the block memory
  tells_message : (m m' : Memory w.S w.P) (reply : Reply w.kind laying_line) (line : List ℕ) → sizes m ≡ needed opened.format → sizes m' ≡ sizes m →
      line ≡ answer_line w.figures (length m'.block) reply m'.block → line ≡ answer_line w.figures opened.format.message reply m'.block
  tells_message m m' reply line room same tells =
      tells ∙ ap (λ n. answer_line w.figures n reply m'.block) (ap (λ z. z.block) (same ∙ room))

  -- a record played as a call goes on with them
  pub going_after : AllSound w.kind laying_line opened → (s s' : Station w.C w.S w.P) (at : ℕ) (before text text' : List ℕ) (said : Said) →
      Begins (Some w.named) (drop at bytes) said → Going s.receiver (memory s) at before text → Wrote w said s text s' text' →
      Going s'.receiver (memory s') (at + length (spelling said)) before text'
  going_after sound s s' at before text text' (opens channel kind) b g a = absurd a.calls
  going_after sound s s' at before text text' (hears count given) b g a =
      let r = s.receiver in
      let r' = s'.receiver in
      let m = memory s in
      let m' = memory s' in
      let samples = w.samples given in
      let reply = a.calls.reply in
      let called = a.calls.called.called in
      let same = a.calls.called.room in
      goes_on r r' m m' at before text text' (hears count given) (answer_line w.figures opened.format.message reply m'.block) g
      (counting w.kind laying_line reply samples g.bursts) (heard r r' g.bursts samples m m' reply g.history called) same b refl
      (a.wrote ∙ ap (λ l. text ++ written l) (tells_message m m' reply a.line g.room same a.calls.tells))
      (λ since lines goes.
      hearing r r' m m' g.bursts g.history count given reply called since lines (enough m g.room)
      (sound.hears r r' g.bursts samples m m' reply g.history called) goes)
  going_after sound s s' at before text text' misses b g a =
      let r = s.receiver in
      let r' = s'.receiver in
      let m = memory s in
      let m' = memory s' in
      let reply = a.calls.reply in
      let called = a.calls.called.called in
      let same = a.calls.called.room in
      goes_on r r' m m' at before text text' misses (answer_line w.figures opened.format.message reply m'.block) g
      (counting w.kind laying_line reply (silence w.kind laying_line r.format) g.bursts) (missed r r' g.bursts m m' reply g.history called) same b refl
      (a.wrote ∙ ap (λ l. text ++ written l) (tells_message m m' reply a.line g.room same a.calls.tells))
      (λ since lines goes.
      missing r r' m m' g.bursts g.history reply called since lines (enough m g.room)
      (sound.misses r r' g.bursts m m' reply g.history called) goes)
  going_after sound s s' at before text text' steals b g a =
      let r = s.receiver in
      let m = memory s in
      let reply = a.calls.reply in
      let called = a.calls.called in
      subst (λ t. Going t.receiver (memory t) (at + length (spelling steals)) before text') (sym a.calls.kept)
      (goes_on r r m m at before text text' steals (stolen_line reply) g g.bursts (stole r r m.ring g.bursts reply g.history called) refl b refl
      (a.wrote ∙ ap (λ l. text ++ written l) a.calls.tells)
      (λ since lines goes. stealing r r m g.bursts g.history reply called since lines goes))
  going_after sound s s' at before text text' restarts b g a =
      let r = s.receiver in
      let r' = s'.receiver in
      let m = memory s in
      let called = a.calls.0.called in
      subst (λ n. Going r' n (at + length (spelling restarts)) before text') (sym a.calls.0.kept)
      (goes_on r r' m m at before text text' restarts restarted_line g [] (restarted r r' m.ring g.bursts g.history called) refl b refl
      (a.wrote ∙ ap (λ l. text ++ written l) a.calls.1)
      (λ since lines goes. restarting r r' m g.bursts g.history called since lines goes))

  -- where they stop, what has been played is all that follows the opening
  pub going_done : (r : Receiver w.C Laying w.S w.P) (m : Memory w.S w.P) (at : ℕ) (before text : List ℕ) (g : Going r m at before text) →
      Follows w opened bytes opened m₀ [] (begun m₀.ring) start at g.so_far
  going_done r m at before text g =
      subst (λ t. Follows w opened bytes opened m₀ [] (begun m₀.ring) start at t) (append-nil g.so_far)
      (g.gives at [] (record { since = []; lines = []; goes = ends r m g.bursts g.history (enough m g.room); spelt = λ records fault left. left; shown = refl }))

-- before the first call
pub going_begun : (w : Weighing) (bytes : List ℕ) (start : ℕ) (r : Receiver w.C Laying w.S w.P) (m : Memory w.S w.P) (before : List ℕ) →
    sizes m ≡ needed r.format → start ≤ length bytes → Going w r bytes start m r m start before before
going_begun w bytes start r m before room within =
    record {
      bursts = [];
      history = begun m.ring;
      room = room;
      forward = omega arith;
      within = within;
      so_far = [];
      wrote = sym (append-nil before);
      gives = λ stop made f. f;
    }

-- how far a player has come with the calls that it began at `p`, with a station opened as `first`
pub record GoingBy (w : Weighing) (p : Player) (before : List ℕ) (first : Station w.C w.S w.P) (q : Player) (s : Station w.C w.S w.P) : Type 0 where
  pub same : Same p q
  pub going : Going w first.receiver p.bytes.now p.at (memory first) s.receiver (memory s) q.at before (string_bytes q.lines)

-- where they stop, all calls after the opening have been played
pub calls_after : (w : Weighing) (p : Player) (channel : Channel) (first : Station w.C w.S w.P) (q : Player) (s : Station w.C w.S w.P) →
    Tuned w.kind channel first.receiver → GoingBy w p (string_bytes p.lines) first q s →
    (text : List ℕ) → text ≡ string_bytes q.lines → NoCall w.named (rest q) →
    CallsAfter w channel p.bytes.now p.at (string_bytes p.lines) q.at text
calls_after w p channel first q s tuned i text e stops =
    let before = string_bytes p.lines in
    let going = i.going in
    record {
      receiver = first.receiver;
      memory = memory first;
      made = going.so_far;
      tuned = tuned;
      follows = going_done w first.receiver p.bytes.now p.at (memory first) s.receiver (memory s) q.at before (string_bytes q.lines) going;
      wrote = e ∙ going.wrote;
      forward = going.forward;
      within = going.within;
      stops = subst (λ b. NoCall w.named (drop q.at b)) i.same stops;
    }

-- where no call follows, none is left out
pub no_calls : (w : Weighing) (p : Player) (channel : Channel) (r : Receiver w.C Laying w.S w.P) (m : Memory w.S w.P) →
    Tuned w.kind channel r → sizes m ≡ needed r.format → NoCall w.named (rest p) → p.at ≤ length p.bytes.now →
    CallsAfter w channel p.bytes.now p.at (string_bytes p.lines) p.at (string_bytes p.lines)
no_calls w p channel r m tuned room stops within =
    let text = string_bytes p.lines in
    let going = going_begun w p.bytes.now p.at r m text room within in
    record {
      receiver = r;
      memory = m;
      made = going.so_far;
      tuned = tuned;
      follows = going_done w r p.bytes.now p.at m r m p.at text text going;
      wrote = going.wrote;
      forward = going.forward;
      within = going.within;
      stops = stops;
    }
