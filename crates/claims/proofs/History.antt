-- Every message that is handed over was brought. A history and a unit go together: nothing is held; or something is, and whatever follows of the command
-- makes it whole; or the message is ready, and was brought.
-- Assumes nothing.
use Prim.Native.Nat.{ℕ, ◌+◌, ◌%◌, ◌≤◌}
use mathlib.Core.Path.{◌≡◌, refl, sym, ap, ap₂, ◌∙◌, subst}
use mathlib.Core.List.{List, [], ◌∷◌, ◌++◌, append-nil, append_assoc}
use mathlib.Core.Logic.{◌⊎◌, inl, inr, ⊎_elim}
use native.Mathlib.Omega.{arith}
use lib.ListN.{length, take, drop, length-append, length-drop}
use Rattle.rules.specs.When.{Not}
use Rattle.wire.specs.When.{at}
use Rattle.port.specs.Trace.{Event}
use Rattle.port.specs.When.{padded}
use Rattle.claims.specs.Command.{Piece, command, Good, mark, IsRequest, IsTrigger, Others}
use Rattle.claims.specs.Wire.{Heard, nothing, accepted, broken_off, wiped_out, handed_over, heard_of, accepted_of}
use Rattle.claims.specs.Wire.{accepted_in, Passes, Unbroken, Spares, Waits, Divides, Divided}
use Rattle.claims.specs.Handed.{Whole, Brought, Begun, Rest, Finished, Allowed}
use Rattle.claims.proofs.Cuts.{parted}
use Rattle.claims.proofs.Effects.{View, Taken, empty, other, all_at_once, begins, ends, goes_on, Broken, Handed, Effect}
use Rattle.claims.proofs.Follows.{Follows, nothing_left, between, one_more_empty, header_whole, header_part, data_whole, data_part}

-- ** one event more

accepted_snoc : (es : List Event) (e : Event) → accepted_in (es ++ (e ∷ [])) ≡ accepted_in es ++ accepted_of (heard_of e)
accepted_snoc [] e = append-nil _
accepted_snoc (f ∷ es) e = ap (λ (l : List (List ℕ)). accepted_of (heard_of f) ++ l) (accepted_snoc es e) ∙ sym (append_assoc (accepted_of (heard_of f)) (accepted_in es) _)

unbroken_snoc : (es : List Event) (e : Event) → Unbroken es → Passes (heard_of e) → Unbroken (es ++ (e ∷ []))
unbroken_snoc [] e b p = (p, tt)
unbroken_snoc (f ∷ es) e b p = (b.0, unbroken_snoc es e b.1 p)

waits_snoc : (es : List Event) (e : Event) → Waits es → Spares (heard_of e) → Waits (es ++ (e ∷ []))
waits_snoc [] e b p = (p, tt)
waits_snoc (f ∷ es) e b p = (b.0, waits_snoc es e b.1 p)

divided_snoc : (es : List Event) (e : Event) → Divides (heard_of e) → Divided (es ++ (e ∷ []))
divided_snoc [] e p = p
divided_snoc (f ∷ []) e p = p
divided_snoc (f ∷ g ∷ es) e p = divided_snoc (g ∷ es) e p

others_snoc : (ss : List (List ℕ)) (s : List ℕ) → Others ss → (s ≡ []) ⊎ (IsRequest s ⊎ IsTrigger s) → Others (ss ++ (s ∷ []))
others_snoc [] s o k = (k, tt)
others_snoc (x ∷ ss) s o k = (o.0, others_snoc ss s o.1 k)

others_front : (ss : List (List ℕ)) (s : List ℕ) → Others (ss ++ (s ∷ [])) → Others ss
others_front [] s o = tt
others_front (x ∷ ss) s o = (o.0, others_front ss s o.1)

others_last : (ss : List (List ℕ)) (s : List ℕ) → Others (ss ++ (s ∷ [])) → (s ≡ []) ⊎ (IsRequest s ⊎ IsTrigger s)
others_last [] s o = o.0
others_last (x ∷ ss) s o = others_last ss s o.1

-- a command's header is none of them
heads_one : (ss : List (List ℕ)) (s : List ℕ) → at s 0 ≡ 1 → Not (Others (ss ++ (s ∷ [])))
heads_one ss s e o = by (others_last ss s o)
  where
    by : (s ≡ []) ⊎ (IsRequest s ⊎ IsTrigger s) → ⊥
    by (inl k) = let z : ◌≡◌ {A = ℕ} 0 1 = ap (λ (l : List ℕ). at l 0) (sym k) ∙ e in omega arith
    by (inr (inl k)) = let z : ◌≡◌ {A = ℕ} 2 1 = ap (λ (l : List ℕ). at l 0) (sym k.bytes) ∙ e in omega arith
    by (inr (inr k)) = let z : ◌≡◌ {A = ℕ} 128 1 = ap (λ (l : List ℕ). at l 0) (sym k.bytes) ∙ e in omega arith

-- ** a history and a unit

-- the packets accepted since the message or break before; or since the history began, with no break
pub record Since (es : List Event) (ps : List (List ℕ)) : Type 0 where
  pub earlier : List Event
  pub bringing : List Event
  pub stretches : es ≡ earlier ++ bringing
  pub first : Divided earlier
  pub unbroken : Unbroken bringing
  pub packets : accepted_in bringing ≡ ps

pub record Within (es : List Event) (ps : List (List ℕ)) : Type 0 where
  pub unbroken : Unbroken es
  pub packets : accepted_in es ≡ ps

-- whatever follows of the command makes it what `Sent` says
abbrev pub Becomes : ℕ → View → List (List ℕ) → (List (List ℕ) → List ℕ → Type 0) → Type 0
Becomes P w ps Sent = (q : List (List ℕ)) (t : List ℕ) → Follows P w.left w.end (length w.held) q t → Sent (ps ++ q) (w.held ++ t)

-- ** an accepted packet: what follows behind it, follows with it

pub follows_as : (P left left' end end' n n' : ℕ) (q : List (List ℕ)) (t : List ℕ) → left ≡ left' → end ≡ end' → n ≡ n' → Follows P left end n q t → Follows P left' end' n' q t
follows_as P left left' end end' n n' q t a b c f = subst (λ (k : ℕ). Follows P k end' n' q t) a (subst (λ (k : ℕ). Follows P left k n' q t) b (subst (λ (k : ℕ). Follows P left end k q t) c f))

-- the unit `x` behind the packet holds `came` more
pub record Further (P : ℕ) (w : View) (s : List ℕ) (x : View) : Type 0 where
  pub came : List ℕ
  pub some : 1 ≤ length came
  pub opens : (at s 0 ≡ 1) ⊎ Not (w.left ≡ 0)
  pub held : x.held ≡ w.held ++ came
  pub ahead : (q : List (List ℕ)) (t : List ℕ) → Follows P x.left (x.end + x.ready) (length x.held) q t → Follows P w.left w.end (length w.held) (s ∷ q) (came ++ t)

module _ (P : ℕ) (w : View) (s : List ℕ) (same : w.size ≡ P) (big : 16 ≤ P) (fours : P % 4 ≡ 0) (resting : w.left ≡ 0 → w.end ≡ 0) (unready : w.ready ≡ 0) where
  -- by a unit that it is equal to
  like : (x y : View) → x ≡ y → Further P w s y → Further P w s x
  like x y e f = subst (Further P w s) (sym e) f

  added : (d : List ℕ) → length (w.held ++ d) ≡ length w.held + length d
  added d = length-append w.held d

  -- all the data of a transfer
  behind : (n : ℕ) (r : List ℕ) → length r ≡ padded n → length (w.held ++ take n r) ≡ length w.held + n
  behind n r long = added (take n r) ∙ ap (λ (k : ℕ). length w.held + k) (parted r n long).0

  -- a packet that brings nothing: it is empty, or no part of a command
  pub record BringsNothing (x : View) : Type 0 where
    pub same_view : x ≡ w
    pub closed : w.left ≡ 0
    pub what : (s ≡ []) ⊎ ((IsRequest s ⊎ IsTrigger s) × (w.held ≡ []))

  pub further : (x : View) → Taken w s x → Further P w s x ⊎ BringsNothing x
  further x (empty is closed e) = inr (record { same_view = e; closed = closed; what = inl is })
  further x (other is closed none e) = inr (record { same_view = e; closed = closed; what = inr (is, none) })
  further x (all_at_once o closed long fits e) = inl (like x _ e (record {
    came = take o.size (drop 12 s);
    some = let k = o.size_some in let m = (parted (drop 12 s) o.size long).0 in omega arith;
    opens = inl (ap (λ (l : List ℕ). at l 0) o.bytes);
    held = refl;
    ahead = λ q t f. follows_as P 0 _ 0 _ _ _ (s ∷ q) _ (sym closed) (sym (resting closed)) refl
        (header_whole P o.end (length w.held) o.tag o.size s (drop 12 s) q t o.tag_some o.tag_fits o.size_some o.bytes long (omega arith)
        (follows_as P _ 0 _ o.end _ _ q t refl (omega arith) (behind o.size (drop 12 s) long) f));
  }))
  further x (begins o closed full less e) = inl (like x _ e (record {
    came = drop 12 s;
    some = let l = length-drop 12 s in omega arith;
    opens = inl (ap (λ (l : List ℕ). at l 0) o.bytes);
    held = refl;
    ahead = λ q t f. let l = length-drop 12 s in follows_as P 0 _ 0 _ _ _ (s ∷ q) (drop 12 s ++ t) (sym closed) (sym (resting closed)) refl
        (header_part P o.end (length w.held) o.tag o.size s (drop 12 s) q t (omega arith) o.tag_some o.tag_fits (omega arith) less o.bytes (omega arith)
        (follows_as P _ _ _ o.end _ _ q t refl (omega arith) (added (drop 12 s)) f));
  }))
  further x (ends opened long fits e) = inl (like x _ e (record {
    came = take w.left s;
    some = let m = (parted s w.left long).0 in omega arith;
    opens = inr opened;
    held = refl;
    ahead = λ q t f. data_whole P w.left w.end (length w.held) s q t (omega arith) long (omega arith)
        (follows_as P _ 0 _ w.end _ _ q t refl (omega arith) (behind w.left s long) f);
  }))
  further x (goes_on opened full less e) = inl (like x _ e (record {
    came = s;
    some = omega arith;
    opens = inr opened;
    held = refl;
    ahead = λ q t f. data_part P w.left w.end (length w.held) s q t (omega arith) (omega arith) (omega arith) less
        (follows_as P _ _ _ w.end _ _ q t refl (omega arith) (added s) f);
  }))

-- ** what follows, from one unit to the next

-- a view of a sound unit
pub record Fine (P : ℕ) (w : View) : Type 0 where
  pub same : w.size ≡ P
  pub flag : (w.ready ≡ 0) ⊎ (w.ready ≡ 1)
  pub closed : w.ready ≡ 1 → w.left ≡ 0
  pub resting : w.left ≡ 0 → w.end ≡ 0
  pub fits : length w.held ≤ 1024

command_some : (ps : List Piece) → Good ps → mark ps ≡ 0 → 1 ≤ length (command ps)
command_some [] g m = absurd (omega arith)
command_some (p ∷ ps) g m = let l = length-append p.bytes (command ps) in let k = g.2 in omega arith

module _ (P : ℕ) (w : View) (ps : List (List ℕ)) where
  -- nothing is held, and nothing of a command has come
  idle_becomes : Others ps → w.held ≡ [] → w.left ≡ 0 → w.end ≡ 0 → Becomes P w ps (Whole P)
  idle_becomes o none closed unmarked q t f =
      let g = follows_as P _ 0 _ 0 _ 0 q t closed unmarked (ap length none) f in
      let k = between P 0 q t 0 g in
      record {
        others = ps;
        pieces = g.pieces;
        before = o;
        sendable = record { good = g.good; some = command_some g.pieces g.good g.mark_is; fits = subst (λ (l : List ℕ). length l ≤ 1024) k.1 (let z = g.fits in omega arith) };
        sent = ap (λ (l : List (List ℕ)). ps ++ l) k.0;
        message = ap (λ (l : List ℕ). l ++ t) none ∙ k.1;
      }

  module _ (Sent : List (List ℕ) → List ℕ → Type 0) (becomes : Becomes P w ps Sent) (s : List ℕ) where
    put : (q : List (List ℕ)) → ps ++ (s ∷ q) ≡ (ps ++ (s ∷ [])) ++ q
    put q = sym (append_assoc ps (s ∷ []) q)

    -- an empty packet
    becomes_empty : s ≡ [] → w.left ≡ 0 → w.end ≡ 0 → Becomes P w (ps ++ (s ∷ [])) Sent
    becomes_empty is closed unmarked q t f =
        subst (λ (l : List (List ℕ)). Sent l (w.held ++ t)) (put q)
        (becomes (s ∷ q) t (subst (λ (p : List ℕ). Follows P w.left w.end (length w.held) (p ∷ q) t) (sym is)
        (follows_as P 0 _ 0 _ _ _ ([] ∷ q) t (sym closed) (sym unmarked) refl (one_more_empty P _ q t (follows_as P _ 0 _ 0 _ _ q t closed unmarked refl f)))))

    module _ (x : View) (k : Further P w s x) where
      by_ahead : (q : List (List ℕ)) (t : List ℕ) → Follows P x.left (x.end + x.ready) (length x.held) q t → Sent ((ps ++ (s ∷ [])) ++ q) (x.held ++ t)
      by_ahead q t f =
          subst (λ (l : List (List ℕ)). Sent l (x.held ++ t)) (put q)
          (subst (λ (m : List ℕ). Sent (ps ++ (s ∷ q)) m) (sym (append_assoc w.held k.came t) ∙ ap (λ (m : List ℕ). m ++ t) (sym k.held))
          (becomes (s ∷ q) (k.came ++ t) (k.ahead q t f)))

      becomes_more : x.ready ≡ 0 → Becomes P x (ps ++ (s ∷ [])) Sent
      becomes_more unready q t f = by_ahead q t (follows_as P _ _ _ _ _ _ q t refl (omega arith) refl f)

      becomes_whole : Fine P x → x.ready ≡ 1 → Sent (ps ++ (s ∷ [])) x.held
      becomes_whole fine ready =
          let closed = fine.closed ready in
          let unmarked = fine.resting closed in
          subst (λ (l : List (List ℕ)). Sent l x.held) (append-nil _)
          (subst (λ (m : List ℕ). Sent ((ps ++ (s ∷ [])) ++ []) m) (append-nil x.held)
          (by_ahead [] [] (follows_as P 0 _ 1 _ _ _ [] [] (sym closed) (omega arith) refl (nothing_left P _ fine.fits))))

-- `From`: the history began on a unit that held something
module _ (P : ℕ) (b : Begun) (From : Type 0) where
  abbrev Source : List Event → List ℕ → Type 0
  Source es m = Brought P es m ⊎ (From × Finished P b es m)

  pub data Known (es : List Event) (w : View) : Type 0 where
    idle : (ps : List (List ℕ)) → Since es ps → Others ps → w.held ≡ [] → w.left ≡ 0 → w.end ≡ 0 → w.ready ≡ 0 → Known es w
    partly : (ps : List (List ℕ)) → Since es ps → Becomes P w ps (Whole P) → Not (w.held ≡ []) → Not (Others ps) → w.ready ≡ 0 → Known es w
    partly_from : (ps : List (List ℕ)) → From → Within es ps → Becomes P w ps (Rest P b) → Not (w.held ≡ []) → w.ready ≡ 0 → Known es w
    ready : Source es w.held → w.ready ≡ 1 → Known es w

  -- ** what becomes of it

  module _ (es : List Event) (e : Event) where
    abbrev es' : List Event
    es' = es ++ (e ∷ [])

    -- what is heard of the event
    module _ (h : Heard) (is : heard_of e ≡ h) where
      since_on : Passes h → (ps : List (List ℕ)) → Since es ps → Since es' (ps ++ accepted_of h)
      since_on p ps k = record {
        earlier = k.earlier;
        bringing = k.bringing ++ (e ∷ []);
        stretches = ap (λ (l : List Event). l ++ (e ∷ [])) k.stretches ∙ append_assoc k.earlier k.bringing (e ∷ []);
        first = k.first;
        unbroken = unbroken_snoc k.bringing e k.unbroken (subst Passes (sym is) p);
        packets = accepted_snoc k.bringing e ∙ ap₂ (λ (l : List (List ℕ)) (x : Heard). l ++ accepted_of x) k.packets is;
      }

      within_on : Passes h → (ps : List (List ℕ)) → Within es ps → Within es' (ps ++ accepted_of h)
      within_on p ps k = record {
        unbroken = unbroken_snoc es e k.unbroken (subst Passes (sym is) p);
        packets = accepted_snoc es e ∙ ap₂ (λ (l : List (List ℕ)) (x : Heard). l ++ accepted_of x) k.packets is;
      }

      source_on : Spares h → (m : List ℕ) → Source es m → Source es' m
      source_on p m (inl k) = inl (record {
        earlier = k.earlier;
        bringing = k.bringing;
        later = k.later ++ (e ∷ []);
        stretches = ap (λ (l : List Event). l ++ (e ∷ [])) k.stretches
            ∙ append_assoc k.earlier (k.bringing ++ k.later) (e ∷ [])
            ∙ ap (λ (l : List Event). k.earlier ++ l) (append_assoc k.bringing k.later (e ∷ []));
        first = k.first;
        unbroken = k.unbroken;
        whole = k.whole;
        waits = waits_snoc k.later e k.waits (subst Spares (sym is) p);
      })
      source_on p m (inr (f, k)) = inr (
        f,
        record {
          bringing = k.bringing;
          later = k.later ++ (e ∷ []);
          stretches = ap (λ (l : List Event). l ++ (e ∷ [])) k.stretches ∙ append_assoc k.bringing k.later (e ∷ []);
          unbroken = k.unbroken;
          rest = k.rest;
          waits = waits_snoc k.later e k.waits (subst Spares (sym is) p);
        },
      )

      -- a break or a message: nothing is held, and a new stretch begins
      anew : Divides h → (x : View) → x.held ≡ [] → x.left ≡ 0 → x.end ≡ 0 → x.ready ≡ 0 → Known es' x
      anew d x held left end unready =
          idle [] (record { earlier = es'; bringing = []; stretches = sym (append-nil es'); first = divided_snoc es e (subst Divides (sym is) d); unbroken = tt; packets = refl }) tt held
          left end unready

    -- ** an accepted packet

    module _ (s : List ℕ) (is : heard_of e ≡ accepted s) (big : 16 ≤ P) (fours : P % 4 ≡ 0) (w x : View) (fw : Fine P w) (fx : Fine P x) where
      holding_on : Further P w s x → Not (x.held ≡ [])
      holding_on k z = let l = length-append w.held k.came in let n = k.some in let a = ap length k.held in let c = ap length z in omega arith

      -- packets of a command, behind those that were accepted since the message or break before
      on_since : (ps : List (List ℕ)) → Since es ps → Becomes P w ps (Whole P) → Not (Others (ps ++ (s ∷ []))) → Further P w s x → Known es' x
      on_since ps k becomes n f =
          let k' = since_on (accepted s) is tt ps k in
          ⊎_elim (λ z. partly (ps ++ (s ∷ [])) k' (becomes_more P w ps (Whole P) becomes s x f z) (holding_on f) n z)
          (λ z. ready (inl (record {
            earlier = k'.earlier;
            bringing = k'.bringing;
            later = [];
            stretches = k'.stretches ∙ ap (λ (l : List Event). k'.earlier ++ l) (sym (append-nil k'.bringing));
            first = k'.first;
            unbroken = k'.unbroken;
            whole = subst (λ (l : List (List ℕ)). Whole P l x.held) (sym k'.packets) (becomes_whole P w ps (Whole P) becomes s x f fx z);
            waits = tt;
          })) z)
          fx.flag

      on_within : (ps : List (List ℕ)) → From → Within es ps → Becomes P w ps (Rest P b) → Further P w s x → Known es' x
      on_within ps from k becomes f =
          let k' = within_on (accepted s) is tt ps k in
          ⊎_elim (λ z. partly_from (ps ++ (s ∷ [])) from k' (becomes_more P w ps (Rest P b) becomes s x f z) (holding_on f) z)
          (λ z. ready (inr (
            from,
            record {
              bringing = es';
              later = [];
              stretches = sym (append-nil es');
              unbroken = k'.unbroken;
              rest = subst (λ (l : List (List ℕ)). Rest P b l x.held) (sym k'.packets) (becomes_whole P w ps (Rest P b) becomes s x f fx z);
              waits = tt;
            },
          )) z)
          fx.flag

      accepted_on : w.ready ≡ 0 → Taken w s x → Known es w → Known es' x
      accepted_on unready t (idle ps k o held left end r) =
          ⊎_elim (λ f. on_since ps k (idle_becomes P w ps o held left end) (heads_one ps s (⊎_elim (λ e. e) (λ e. absurd (e left)) f.opens)) f)
          (λ f. let same = f.same_view in idle (ps ++ (s ∷ [])) (since_on (accepted s) is tt ps k) (others_snoc ps s o (⊎_elim inl (λ z. inr z.0) f.what))
          (ap (λ (v : View). v.held) same ∙ held) (ap (λ (v : View). v.left) same ∙ left) (ap (λ (v : View). v.end) same ∙ end) (ap (λ (v : View). v.ready) same ∙ r))
          (further P w s fw.same big fours fw.resting unready x t)
      accepted_on unready t (partly ps k becomes some n r) =
          ⊎_elim (on_since ps k becomes (λ o. n (others_front ps s o)))
          (λ f. ⊎_elim
          (λ z. subst (Known es') (sym f.same_view) (partly (ps ++ (s ∷ [])) (since_on (accepted s) is tt ps k)
          (becomes_empty P w ps (Whole P) becomes s z f.closed (fw.resting f.closed)) some (λ o. n (others_front ps s o)) r))
          (λ z. absurd (some z.1)) f.what)
          (further P w s fw.same big fours fw.resting unready x t)
      accepted_on unready t (partly_from ps from k becomes some r) =
          ⊎_elim (on_within ps from k becomes)
          (λ f. ⊎_elim
          (λ z. subst (Known es') (sym f.same_view) (partly_from (ps ++ (s ∷ [])) from (within_on (accepted s) is tt ps k)
          (becomes_empty P w ps (Rest P b) becomes s z f.closed (fw.resting f.closed)) some r))
          (λ z. absurd (some z.1)) f.what)
          (further P w s fw.same big fours fw.resting unready x t)
      accepted_on unready t (ready k r) = let z : ◌≡◌ {A = ℕ} 0 1 = sym unready ∙ r in absurd (omega arith)

    -- ** any event

    module _ (big : 16 ≤ P) (fours : P % 4 ≡ 0) (w x : View) (fw : Fine P w) (fx : Fine P x) where
      -- nothing is heard
      still : heard_of e ≡ nothing → x ≡ w → Known es w → Known es' x
      still is same k = subst (Known es') (sym same) (by k)
        where
          by : Known es w → Known es' w
          by (idle ps k o held left end r) = idle ps (subst (Since es') (append-nil ps) (since_on nothing is tt ps k)) o held left end r
          by (partly ps k becomes some n r) = partly ps (subst (Since es') (append-nil ps) (since_on nothing is tt ps k)) becomes some n r
          by (partly_from ps from k becomes some r) = partly_from ps from (subst (Within es') (append-nil ps) (within_on nothing is tt ps k)) becomes some r
          by (ready k r) = ready (source_on nothing is tt w.held k) r

      breaks_off : heard_of e ≡ broken_off → Broken w x → Known es w → Known es' x
      breaks_off is k (ready source r) = ready (subst (Source es') (sym (k.keeps r)) (source_on broken_off is tt w.held source)) (k.ready ∙ r)
      breaks_off is k (idle ps _ _ _ _ _ r) = anew broken_off is tt x (k.drops r) k.left k.end (k.ready ∙ r)
      breaks_off is k (partly ps _ _ _ _ r) = anew broken_off is tt x (k.drops r) k.left k.end (k.ready ∙ r)
      breaks_off is k (partly_from ps _ _ _ _ r) = anew broken_off is tt x (k.drops r) k.left k.end (k.ready ∙ r)

      -- a message is ready when it is handed over
      source_of : (m : List ℕ) → Handed w m x → Known es w → Source es m
      source_of m k (ready source r) = subst (Source es) (sym k.message) source
      source_of m k (idle ps _ _ _ _ _ r) = let z : ◌≡◌ {A = ℕ} 0 1 = sym r ∙ k.ready in absurd (omega arith)
      source_of m k (partly ps _ _ _ _ r) = let z : ◌≡◌ {A = ℕ} 0 1 = sym r ∙ k.ready in absurd (omega arith)
      source_of m k (partly_from ps _ _ _ _ r) = let z : ◌≡◌ {A = ℕ} 0 1 = sym r ∙ k.ready in absurd (omega arith)

      pub event_on : (h : Heard) → heard_of e ≡ h → Effect w h x → Known es w → Allowed Source es h × Known es' x
      event_on nothing is k n = (tt, still is k n)
      event_on (accepted s) is k n = (tt, accepted_on s is big fours w x fw fx k.0 k.1 n)
      event_on broken_off is k n = (tt, breaks_off is k n)
      event_on wiped_out is k n = (tt, anew wiped_out is tt x k.held k.left k.end k.ready)
      event_on (handed_over m) is k n =
          let after = k.after in
          let closed = fw.closed k.ready in (
            source_of m k n,
            anew (handed_over m) is tt x (ap (λ (v : View). v.held) after) (ap (λ (v : View). v.left) after ∙ closed) (ap (λ (v : View). v.end) after ∙ fw.resting closed)
                (ap (λ (v : View). v.ready) after),
          )
