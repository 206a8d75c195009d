-- The links of a block change as the mathematics' links do: a leaf's words 2 and 3, and the trailer's first and last, are each written alone.
use Prim.Native.Nat.{ℕ, ◌<◌}
use mathlib.Core.Path.{◌≡◌, refl, sym, ap, ap₂, ◌∙◌, fun_ext}
use mathlib.Core.Logic.{inl, inr, ◌≢◌, ite, if_pos, if_neg}
use mathlib.Core.List.{List}
use mathlib.Core.Bool.{Bool, true, false}
use native.Mathlib.Omega.{arith}
use native.Mathlib.Decide.{ℕ_discrete}
use lib.ListN.{length, get_or, set, replicate}
use lib.Seq.{get_or-set_same, get_or-set_other}
use Rattle.lists.specs.Scan.{choose}
use Rattle.frames.specs.Frame.{FrameOf, trailer_of}
use Rattle.frames.specs.Place.{in_pool, size_at, record_at, put_at}
use Rattle.frames.specs.declared.frame.Frame.{Frame}
use Rattle.frames.proofs.Places.{record_length}
use Rattle.art.specs.Stores.{leaf_place, inner_place}
use Rattle.art.specs.Chain.{Links, leaf_ref, set_links, link_in, link_out, own_links, set_after, set_before}
use Rattle.pools.specs.Leaf.{leaf_words, set_total}
use Rattle.pools.specs.Link.{LeafOrEnd, set_trailer, set_next, set_previous, set_link}
use Rattle.view.specs.Links.{Direction, link_at, links_of}
use Rattle.view.proofs.Puts.{put_same, put_other, put_trailer, put_fits}
use Rattle.view.proofs.Leaves.{total_long, total_front}
use Rattle.view.proofs.Trailers.{trailer_same, trailer_other, trailer_record}
use Rattle.view.proofs.Links.{next_way, previous_way, link_trailer, link_put, link_long, next_fits, previous_fits}

links_ext : (k k' : Links) → k.first ≡ k'.first → k.last ≡ k'.last → ((m : ℕ) → k.prev m ≡ k'.prev m) → ((m : ℕ) → k.next m ≡ k'.next m) → k ≡ k'
links_ext k k' a b p q = λ i. record { first = a i; last = b i; prev = fun_ext p i; next = fun_ext q i }

-- a leaf of no pool has no links, whatever the words are
same_link : (f : Frame) (words words' : List ℕ) (m : ℕ) → (in_pool f (leaf_place m) ≡ true → record_at f words' (leaf_place m) ≡ record_at f words (leaf_place m))
    → (j : ℕ) → link_at f words' j m ≡ link_at f words j m
same_link f words words' m h j = go (in_pool f (leaf_place m)) refl
  where
    go : (b : Bool) → in_pool f (leaf_place m) ≡ b
        → choose {A = ℕ} b (get_or (record_at f words' (leaf_place m)) j 0) 0 ≡ choose {A = ℕ} b (get_or (record_at f words (leaf_place m)) j 0) 0
    go true e = ap (λ (l : List ℕ). get_or l j 0) (h e)
    go false e = refl

pub link_in_pool : (f : Frame) (words : List ℕ) (j m : ℕ) → in_pool f (leaf_place m) ≡ true → link_at f words j m ≡ get_or (record_at f words (leaf_place m)) j 0
link_in_pool f words j m h = ap (λ (b : Bool). choose {A = ℕ} b (get_or (record_at f words (leaf_place m)) j 0) 0) h

module _ {f : Frame} {words keys : List ℕ} (w : FrameOf f words keys) where
  -- an inner record written
  pub inner_links : (k n : ℕ) (rec : List ℕ) → in_pool f (inner_place k n) ≡ true → length rec ≡ size_at f (inner_place k n)
      → links_of f (put_at f words (inner_place k n) rec) ≡ links_of f words
  unfolding links_of
  inner_links k n rec h fit =
      let t = put_trailer w (inner_place k n) rec h fit in
      links_ext (links_of f (put_at f words (inner_place k n) rec)) (links_of f words)
      (ap (λ (l : List ℕ). get_or l 12 0) t) (ap (λ (l : List ℕ). get_or l 13 0) t) (same 2) (same 3)
    where
      other : (m : ℕ) → leaf_place m ≢ inner_place k n
      other m q = let z : ◌≡◌ {A = ℕ} 0 1 = cc in omega arith

      same : (j m : ℕ) → link_at f (put_at f words (inner_place k n) rec) j m ≡ link_at f words j m
      same j m = same_link f words (put_at f words (inner_place k n) rec) m (λ e. put_other w (inner_place k n) rec h fit (leaf_place m) e (other m)) j

  -- a leaf written
  module _ (n : ℕ) (rec : List ℕ) (hn : in_pool f (leaf_place n) ≡ true) (fit : length rec ≡ 6) where
    link_own : (j m : ℕ) → link_at f (put_at f words (leaf_place n) rec) j m ≡ ite (ℕ_discrete m n) (get_or rec j 0) (link_at f words j m)
    link_own j m = go (ℕ_discrete m n)
      where
        go : (d : Dec (m ≡ n)) → link_at f (put_at f words (leaf_place n) rec) j m ≡ ite d (get_or rec j 0) (link_at f words j m)
        go (yes e) =
            ap (link_at f (put_at f words (leaf_place n) rec) j) e
            ∙ link_in_pool f (put_at f words (leaf_place n) rec) j n hn
            ∙ ap (λ (l : List ℕ). get_or l j 0) (put_same w (leaf_place n) rec hn fit)
        go (no ne) = same_link f words (put_at f words (leaf_place n) rec) m (λ e. put_other w (leaf_place n) rec hn fit (leaf_place m) e (λ q. ne (cc))) j

    pub leaf_links : links_of f (put_at f words (leaf_place n) rec) ≡ own_links (links_of f words) n (get_or rec 2 0) (get_or rec 3 0)
    unfolding links_of
    leaf_links =
        let t = put_trailer w (leaf_place n) rec hn fit in
        links_ext (links_of f (put_at f words (leaf_place n) rec)) (own_links (links_of f words) n (get_or rec 2 0) (get_or rec 3 0))
        (ap (λ (l : List ℕ). get_or l 12 0) t) (ap (λ (l : List ℕ). get_or l 13 0) t) (link_own 2) (link_own 3)

    -- with the links that it had
    pub same_links : get_or rec 2 0 ≡ get_or (record_at f words (leaf_place n)) 2 0 → get_or rec 3 0 ≡ get_or (record_at f words (leaf_place n)) 3 0
        → links_of f (put_at f words (leaf_place n) rec) ≡ links_of f words
    unfolding links_of
    same_links p q =
        leaf_links
        ∙ links_ext (own_links (links_of f words) n (get_or rec 2 0) (get_or rec 3 0)) (links_of f words) refl refl
        (λ m. go 2 p m (ℕ_discrete m n)) (λ m. go 3 q m (ℕ_discrete m n))
      where
        go : (j : ℕ) → get_or rec j 0 ≡ get_or (record_at f words (leaf_place n)) j 0 → (m : ℕ) (d : Dec (m ≡ n)) → ite d (get_or rec j 0) (link_at f words j m) ≡ link_at f words j m
        go j e m (yes i) = e ∙ sym (ap (link_at f words j) i ∙ link_in_pool f words j n hn)
        go j e m (no i) = refl

  pub total_links : (n total : ℕ) → in_pool f (leaf_place n) ≡ true
      → links_of f (put_at f words (leaf_place n) (set_total total (record_at f words (leaf_place n)))) ≡ links_of f words
  total_links n total hn =
      same_links n (set_total total (record_at f words (leaf_place n))) hn (total_long w n hn total) (total_front w n hn total 2 (omega arith)) (total_front w n hn total 3 (omega arith))

  -- a word of the trailer written
  module _ (i v : ℕ) where
    trailer_link : (j m : ℕ) → link_at f (set_trailer i v words) j m ≡ link_at f words j m
    trailer_link j m = same_link f words (set_trailer i v words) m (λ e. trailer_record w i v (leaf_place m) e) j

    -- root or count
    pub trailer_links : i < 16 → i ≢ 12 → i ≢ 13 → links_of f (set_trailer i v words) ≡ links_of f words
    unfolding links_of
    trailer_links h a b =
        links_ext (links_of f (set_trailer i v words)) (links_of f words)
        (trailer_other w i v h 12 (λ e. a (sym e))) (trailer_other w i v h 13 (λ e. b (sym e))) (trailer_link 2) (trailer_link 3)

  -- what comes after a leaf or before it: word t of the trailer, or word i of the leaf
  module _ {t i : ℕ} (way : Direction t i) (v : ℕ) where
    by_put : (ref : ℕ) (u : (n : ℕ) × (ref ≡ leaf_ref n) × (in_pool f (leaf_place n) ≡ true))
        → set_link t i f ref v words ≡ put_at f words (leaf_place u.0) (set (record_at f words (leaf_place u.0)) i v)
    by_put ref u = link_put w way v ref u.0 u.1

    long : (ref : ℕ) (u : (n : ℕ) × (ref ≡ leaf_ref n) × (in_pool f (leaf_place n) ≡ true)) → length (set (record_at f words (leaf_place u.0)) i v) ≡ 6
    long ref u = link_long w way v u.0 u.2

    end_here : (ref : ℕ) → LeafOrEnd f ref → get_or (trailer_of (set_link t i f ref v words)) t 0 ≡ ite (ℕ_discrete ref 0) v (get_or (trailer_of words) t 0)
    end_here ref (inl e) =
        ap (λ (l : List ℕ). get_or (trailer_of l) t 0) (link_trailer w way v ref e) ∙ trailer_same w t v (omega arith) ∙ sym (if_pos (ℕ_discrete ref 0) e v (get_or (trailer_of words) t 0))
    end_here ref (inr u) =
        ap (λ (l : List ℕ). get_or (trailer_of l) t 0) (by_put ref u)
        ∙ ap (λ (l : List ℕ). get_or l t 0) (put_trailer w (leaf_place u.0) (set (record_at f words (leaf_place u.0)) i v) u.2 (long ref u))
        ∙ sym (if_neg (ℕ_discrete ref 0) (λ z. omega (arith, u.1)) v (get_or (trailer_of words) t 0))

    end_there : (ref : ℕ) → LeafOrEnd f ref → (j : ℕ) → j ≢ t → get_or (trailer_of (set_link t i f ref v words)) j 0 ≡ get_or (trailer_of words) j 0
    end_there ref (inl e) j ne =
        ap (λ (l : List ℕ). get_or (trailer_of l) j 0) (link_trailer w way v ref e) ∙ trailer_other w t v (omega arith) j ne
    end_there ref (inr u) j ne =
        ap (λ (l : List ℕ). get_or (trailer_of l) j 0) (by_put ref u)
        ∙ ap (λ (l : List ℕ). get_or l j 0) (put_trailer w (leaf_place u.0) (set (record_at f words (leaf_place u.0)) i v) u.2 (long ref u))

    link_here : (ref : ℕ) → LeafOrEnd f ref → (m : ℕ) → link_at f (set_link t i f ref v words) i m ≡ ite (ℕ_discrete (leaf_ref m) ref) v (link_at f words i m)
    link_here ref (inl e) m =
        ap (λ (l : List ℕ). link_at f l i m) (link_trailer w way v ref e) ∙ trailer_link t v i m ∙ sym (if_neg (ℕ_discrete (leaf_ref m) ref) (λ z. omega arith) v (link_at f words i m))
    link_here ref (inr u) m =
        ap (λ (l : List ℕ). link_at f l i m) (by_put ref u)
        ∙ link_own u.0 (set (record_at f words (leaf_place u.0)) i v) u.2 (long ref u) i m
        ∙ go (ℕ_discrete m u.0) (ℕ_discrete (leaf_ref m) ref)
      where
        go : (d : Dec (m ≡ u.0)) (g : Dec (leaf_ref m ≡ ref))
            → ite d (get_or (set (record_at f words (leaf_place u.0)) i v) i 0) (link_at f words i m) ≡ ite g v (link_at f words i m)
        go (yes a) (yes b) = get_or-set_same (record_at f words (leaf_place u.0)) i v 0 (omega (arith, record_length w (leaf_place u.0) u.2))
        go (yes a) (no b) = absurd (b (ap leaf_ref a ∙ sym u.1))
        go (no a) (yes b) = absurd (a (omega (arith, u.1)))
        go (no a) (no b) = refl

    link_there : (ref : ℕ) → LeafOrEnd f ref → (j : ℕ) → j ≢ i → (m : ℕ) → link_at f (set_link t i f ref v words) j m ≡ link_at f words j m
    link_there ref (inl e) j ne m = ap (λ (l : List ℕ). link_at f l j m) (link_trailer w way v ref e) ∙ trailer_link t v j m
    link_there ref (inr u) j ne m =
        ap (λ (l : List ℕ). link_at f l j m) (by_put ref u)
        ∙ link_own u.0 (set (record_at f words (leaf_place u.0)) i v) u.2 (long ref u) j m
        ∙ go (ℕ_discrete m u.0)
      where
        go : (d : Dec (m ≡ u.0)) → ite d (get_or (set (record_at f words (leaf_place u.0)) i v) j 0) (link_at f words j m) ≡ link_at f words j m
        go (yes a) =
            get_or-set_other (record_at f words (leaf_place u.0)) i j v 0 ne
            ∙ sym (ap (link_at f words j) a ∙ link_in_pool f words j u.0 u.2)
        go (no a) = refl

  pub next_links : (ref v : ℕ) → LeafOrEnd f ref → links_of f (set_next f ref v words) ≡ set_after (links_of f words) ref v
  unfolding links_of set_next
  next_links ref v h =
      links_ext (links_of f (set_next f ref v words)) (set_after (links_of f words) ref v)
      (end_here next_way v ref h) (end_there next_way v ref h 13 (λ e. omega arith)) (link_there next_way v ref h 2 (λ e. omega arith)) (link_here next_way v ref h)

  pub previous_links : (ref v : ℕ) → LeafOrEnd f ref → links_of f (set_previous f ref v words) ≡ set_before (links_of f words) ref v
  unfolding links_of set_previous
  previous_links ref v h =
      links_ext (links_of f (set_previous f ref v words)) (set_before (links_of f words) ref v)
      (end_there previous_way v ref h 12 (λ e. omega arith)) (end_here previous_way v ref h) (link_here previous_way v ref h) (link_there previous_way v ref h 3 (λ e. omega arith))

  -- the trailer's other words
  pub next_trailer : (ref v : ℕ) → LeafOrEnd f ref → (j : ℕ) → j ≢ 12 → get_or (trailer_of (set_next f ref v words)) j 0 ≡ get_or (trailer_of words) j 0
  unfolding set_next
  next_trailer ref v = end_there next_way v ref

  pub previous_trailer : (ref v : ℕ) → LeafOrEnd f ref → (j : ℕ) → j ≢ 13 → get_or (trailer_of (set_previous f ref v words)) j 0 ≡ get_or (trailer_of words) j 0
  unfolding set_previous
  previous_trailer ref v = end_there previous_way v ref

-- ── a leaf linked in, and taken out ──
-- the order of the three writes does not matter, where the neighbours are other leaves
pub own_first : (k : Links) (n p q a x b y : ℕ) → a ≢ leaf_ref n → b ≢ leaf_ref n → set_before (set_after (own_links k n p q) a x) b y ≡ set_links k n p q a x b y
own_first k n p q a x b y na nb =
    links_ext (set_before (set_after (own_links k n p q) a x) b y) (set_links k n p q a x b y) refl refl
    (λ m. go nb (ℕ_discrete m n) (ℕ_discrete (leaf_ref m) b) p y (k.prev m))
    (λ m. go na (ℕ_discrete m n) (ℕ_discrete (leaf_ref m) a) q x (k.next m))
  where
    go : {c m : ℕ} → c ≢ leaf_ref n → (d : Dec (m ≡ n)) (g : Dec (leaf_ref m ≡ c)) (o z l : ℕ) → ite g z (ite d o l) ≡ ite d o (ite g z l)
    go ne (yes i) (yes j) o z l = absurd (ne (sym j ∙ ap leaf_ref i))
    go ne (yes i) (no j) o z l = refl
    go ne (no i) (yes j) o z l = refl
    go ne (no i) (no j) o z l = refl

module _ {f : Frame} {words keys : List ℕ} (w : FrameOf f words keys) (n : ℕ) (rec : List ℕ) (hn : in_pool f (leaf_place n) ≡ true) (fit : length rec ≡ 6) where
  module _ (a x b y : ℕ) (ha : LeafOrEnd f a) (hb : LeafOrEnd f b) where
    -- the neighbours first
    pub links_last : links_of f (put_at f (set_previous f b y (set_next f a x words)) (leaf_place n) rec)
        ≡ set_links (links_of f words) n (get_or rec 2 0) (get_or rec 3 0) a x b y
    links_last =
        let w₁ = next_fits w a x ha in
        let w₂ = previous_fits w₁ b y hb in
        leaf_links w₂ n rec hn fit
        ∙ ap (λ (k : Links). own_links k n (get_or rec 2 0) (get_or rec 3 0)) (previous_links w₁ b y hb ∙ ap (λ (k : Links). set_before k b y) (next_links w a x ha))

    -- the leaf first
    pub links_first : a ≢ leaf_ref n → b ≢ leaf_ref n
        → links_of f (set_previous f b y (set_next f a x (put_at f words (leaf_place n) rec))) ≡ set_links (links_of f words) n (get_or rec 2 0) (get_or rec 3 0) a x b y
    links_first na nb =
        let w₁ = put_fits w (leaf_place n) rec hn fit in
        let w₂ = next_fits w₁ a x ha in
        previous_links w₂ b y hb
        ∙ ap (λ (k : Links). set_before k b y) (next_links w₁ a x ha ∙ ap (λ (k : Links). set_after k a x) (leaf_links w n rec hn fit))
        ∙ own_first (links_of f words) n (get_or rec 2 0) (get_or rec 3 0) a x b y na nb

module _ {f : Frame} {words keys : List ℕ} (w : FrameOf f words keys) (n : ℕ) (hn : in_pool f (leaf_place n) ≡ true) where
  -- a new leaf between what a and b refer to
  module _ (a b len total : ℕ) (ha : LeafOrEnd f a) (hb : LeafOrEnd f b) where
    pub in_last : links_of f (put_at f (set_previous f b (leaf_ref n) (set_next f a (leaf_ref n) words)) (leaf_place n) (leaf_words len a b total)) ≡ link_in (links_of f words) n a b
    unfolding leaf_words
    in_last = links_last w n (leaf_words len a b total) hn refl a (leaf_ref n) b (leaf_ref n) ha hb

    pub in_first : a ≢ leaf_ref n → b ≢ leaf_ref n
        → links_of f (set_previous f b (leaf_ref n) (set_next f a (leaf_ref n) (put_at f words (leaf_place n) (leaf_words len a b total)))) ≡ link_in (links_of f words) n a b
    unfolding leaf_words
    in_first = links_first w n (leaf_words len a b total) hn refl a (leaf_ref n) b (leaf_ref n) ha hb

  -- a leaf that p and q stand before and after, taken out and cleared
  module _ (p q : ℕ) (ep : p ≡ (links_of f words).prev n) (eq : q ≡ (links_of f words).next n) (hp : LeafOrEnd f p) (hq : LeafOrEnd f q) where
    taken : set_links (links_of f words) n 0 0 p q q p ≡ link_out (links_of f words) n
    taken = ap₂ (λ (c d : ℕ). set_links (links_of f words) n 0 0 c d d c) ep eq

    pub out_last : links_of f (put_at f (set_previous f q p (set_next f p q words)) (leaf_place n) (replicate 6 0)) ≡ link_out (links_of f words) n
    out_last = links_last w n (replicate 6 0) hn refl p q q p hp hq ∙ taken

    pub out_first : p ≢ leaf_ref n → q ≢ leaf_ref n
        → links_of f (set_previous f q p (set_next f p q (put_at f words (leaf_place n) (replicate 6 0)))) ≡ link_out (links_of f words) n
    out_first np nq = links_first w n (replicate 6 0) hn refl p q q p hp hq np nq ∙ taken
