-- A leaf written, cleared, and given another total: the cell that its words and key bytes show, and its rule.
use Prim.Native.Nat.{ℕ, ◌+◌, ◌-◌, ◌*◌, ◌/◌, ◌%◌, ◌≤◌, ◌^◌}
use mathlib.Core.Path.{◌≡◌, refl, sym, ap, ap₂, ◌∙◌}
use mathlib.Core.List.{List}
use mathlib.Core.Bool.{Bool, true, ◌&&◌}
use native.Mathlib.Omega.{arith}
use lib.ListN.{length, get_or, take, drop, set, replicate, length-append, length-replicate, length-set}
use lib.Seq.{take_at, drop_at, get_or-set_same, get_or-set_other}
use lib.Dec.{eqb, leb}
use borrow.Author.Tests.{le-leb, ne_eqb}
use Rattle.lists.specs.Scan.{choose, all_pass, at_most}
use Rattle.lists.specs.Part.{between}
use Rattle.lists.proofs.Tests.{and_both, all_take, zeros_all}
use Rattle.frames.specs.Frame.{FrameOf}
use Rattle.records.specs.Own.{leaf_ok, total_of}
use Rattle.frames.specs.Place.{in_pool, record_at, key_at, put_at, put_key}
use Rattle.records.specs.View.{Held, leaf_cell_of, cell_of, rule_at}
use Rattle.frames.specs.declared.frame.Frame.{Frame}
use Rattle.frames.proofs.Places.{record_length}
use Rattle.art.specs.Stores.{leaf_place, unused, leaf_cell, write}
use Rattle.lists.specs.Edit.{padded}
use Rattle.pools.specs.Leaf.{leaf_words, set_total}
use Rattle.view.proofs.Puts.{put_same, put_cell}
use Rattle.view.proofs.Keys.{leaf_view}
use Rattle.view.proofs.Seen.{seen_leaf}

-- ── words and key bytes by themselves ──
pub words_long : (len p q total : ℕ) → length (leaf_words len p q total) ≡ 6
unfolding leaf_words
words_long len p q total = refl

pub words_total : (len p q total : ℕ) → total_of (leaf_words len p q total) ≡ total
unfolding leaf_words total_of
words_total len p q total = omega arith

module _ (limit : ℕ) (tag : List ℕ) (short : length tag ≤ limit) where
  pub bytes_long : length (padded limit tag) ≡ limit
  bytes_long = simp (length-append, length-replicate) (omega arith)

  pub bytes_tag : take (length tag) (padded limit tag) ≡ tag
  bytes_tag = take_at tag (replicate (limit - length tag) 0) (length tag) refl

  bytes_rest : all_pass (at_most 0) (between (padded limit tag) (length tag) limit) ≡ true
  bytes_rest =
      all_take (at_most 0) (limit - length tag) (drop (length tag) (padded limit tag))
      (ap (all_pass (at_most 0)) (drop_at tag (replicate (limit - length tag) 0) (length tag) refl) ∙ zeros_all (limit - length tag) 0)

  module _ (p q total : ℕ) where
    pub words_cell : (n : ℕ) → leaf_cell_of n (leaf_words (length tag) p q total) (padded limit tag) ≡ leaf_cell tag (record { number = n; total = total })
    unfolding leaf_words
    words_cell n =
        ap₂ (λ (t : List ℕ) (v : ℕ). leaf_cell t (held n v)) bytes_tag (words_total (length tag) p q total)
      where
        held : ℕ → ℕ → Held
        held m v = record { number = m; total = v }

    pub words_rule : leaf_ok limit (leaf_words (length tag) p q total) (padded limit tag) ≡ true
    unfolding leaf_words leaf_ok
    words_rule = and_both (le-leb (length tag) limit short) bytes_rest

-- ── a leaf written ──
module _ {f : Frame} {words keys : List ℕ} (w : FrameOf f words keys) (n : ℕ) (hn : in_pool f (leaf_place n) ≡ true) where
  module _ (tag : List ℕ) (short : length tag ≤ f.form.limit) (p q total : ℕ) where
    -- the write of a tag and a total
    pub write_leaf : cell_of f (put_at f words (leaf_place n) (leaf_words (length tag) p q total)) (put_key f keys n (padded f.form.limit tag))
        ≡ write (cell_of f words keys) (leaf_place n) (leaf_cell tag (record { number = n; total = total }))
    write_leaf =
        leaf_view w n (padded f.form.limit tag) hn (bytes_long f.form.limit tag short) (leaf_words (length tag) p q total) (words_long (length tag) p q total)
        ∙ ap (write (cell_of f words keys) (leaf_place n)) (words_cell f.form.limit tag short p q total n)

  -- ── a leaf cleared ──
  pub clear_leaf : cell_of f (put_at f words (leaf_place n) (replicate 6 0)) (put_key f keys n (replicate f.form.limit 0))
      ≡ write (cell_of f words keys) (leaf_place n) unused
  clear_leaf = leaf_view w n (replicate f.form.limit 0) hn (length-replicate f.form.limit 0) (replicate 6 0) refl

  -- ── another total ──
  module _ (total : ℕ) where
    rec : List ℕ
    rec = record_at f words (leaf_place n)

    long : length rec ≡ 6
    unfolding rec
    long = record_length w (leaf_place n) hn

    pub total_long : length (set_total total (record_at f words (leaf_place n))) ≡ 6
    unfolding set_total rec
    total_long = simp length-set long

    -- the words before the total stay
    pub total_front : (i : ℕ) → i ≤ 3 → get_or (set_total total (record_at f words (leaf_place n))) i 0 ≡ get_or (record_at f words (leaf_place n)) i 0
    unfolding set_total rec
    total_front i h =
        get_or-set_other (set rec 4 (total % 2 ^ 32)) 5 i (total / 2 ^ 32) 0 (λ e. omega arith) ∙ get_or-set_other rec 4 i (total % 2 ^ 32) 0 (λ e. omega arith)

    pub total_is : total_of (set_total total (record_at f words (leaf_place n))) ≡ total
    unfolding set_total total_of rec
    total_is =
        ap₂ (λ (a b : ℕ). a + b * 4294967296)
        (get_or-set_other (set rec 4 (total % 2 ^ 32)) 5 4 (total / 2 ^ 32) 0 (λ e. omega arith) ∙ get_or-set_same rec 4 (total % 2 ^ 32) 0 (omega (arith, long)))
        (get_or-set_same (set rec 4 (total % 2 ^ 32)) 5 (total / 2 ^ 32) 0 (omega (arith, long, length-set rec 4 (total % 2 ^ 32))))
        ∙ omega arith

    pub total_rule : rule_at f (put_at f words (leaf_place n) (set_total total (record_at f words (leaf_place n)))) keys (leaf_place n) ≡ rule_at f words keys (leaf_place n)
    unfolding leaf_ok
    total_rule =
        ap (λ (r : List ℕ). leaf_ok f.form.limit r (key_at f keys n)) (put_same w (leaf_place n) (set_total total (record_at f words (leaf_place n))) hn total_long)
        ∙ ap₂ (λ (a b : ℕ). leb b f.form.limit && (eqb a 1 && all_pass (at_most 0) (between (key_at f keys n) b f.form.limit))) (total_front 0 (omega arith)) (total_front 1 (omega arith))

    -- the cell has the new total
    pub total_cell : {tag : List ℕ} {a : Held} → cell_of f words keys (leaf_place n) ≡ leaf_cell tag a
        → cell_of f (put_at f words (leaf_place n) (set_total total (record_at f words (leaf_place n)))) keys
        ≡ write (cell_of f words keys) (leaf_place n) (leaf_cell tag (record { number = n; total = total }))
    total_cell {tag} {a} h =
        put_cell w (leaf_place n) (set_total total (record_at f words (leaf_place n))) hn total_long
        ∙ ap (write (cell_of f words keys) (leaf_place n)) shown
      where
        held : ℕ → Held
        held v = record { number = n; total = v }

        shown : leaf_cell_of n (set_total total (record_at f words (leaf_place n))) (key_at f keys n) ≡ leaf_cell tag (held total)
        shown =
            let s = seen_leaf f words keys n tag a h in
            ap (λ (b : Bool). choose b unused (leaf_cell (take (get_or (set_total total (record_at f words (leaf_place n))) 1 0) (key_at f keys n)) (held (total_of (set_total total (record_at f words (leaf_place n)))))))
            (ne_eqb (get_or (set_total total (record_at f words (leaf_place n))) 0 0) 0 (λ e. s.used (sym (total_front 0 (omega arith)) ∙ e)))
            ∙ ap₂ (λ (l : ℕ) (v : ℕ). leaf_cell (take l (key_at f keys n)) (held v)) (total_front 1 (omega arith)) total_is
            ∙ ap (λ (t : List ℕ). leaf_cell t (held total)) (sym s.tag_is)
