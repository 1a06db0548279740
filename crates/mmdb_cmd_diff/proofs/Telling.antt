-- What lines say, one after another.
use Rattle.std.proofs.Common.{◌≡◌, ◌∙◌, ◌⊎◌, inl, inr, ℕ, Bool, false, arith, List, [], ◌∷◌, ◌++◌, ◌+◌, ◌<◌, length, take, get_or, Option, Some, None, is_some, IfSome, IsSomeAnd, refl, sym, ap, subst, append_assoc, append-nil}
use Rattle.std.specs.List.{AllByRecursion}
use Rattle.std.specs.Io.KnownBytes.{Appends}
use Rattle.std.proofs.KnownBytes.{Appends-nil, Appends-trans}
use Rattle.std.proofs.lemmas.List.{take_more}
use Rattle.std.proofs.lemmas.List.Elements.{All-from_recursion, recursion_from_All}
use Rattle.mmdb_blocks.specs.Blocks.{IsBlock, IsIn, IsWithin, AscendsFrom, HasNoHalves, IsJoined, end}
use Rattle.mmdb_blocks.specs.Joining.{IsJoining, IsSealed, waiting_of, settled_of}
use Rattle.mmdb_blocks.specs.Kinds.{IsNetworkOf}
use Rattle.mmdb_blocks.specs.declared.block.Block.{Block}
use Rattle.mmdb_net.specs.declared.network.IpNetwork.{IpNetwork}
use Rattle.mmdb_layout.specs.declared.layout.Layout.{Layout}
use Rattle.mmdb_compare.specs.declared.together.TogetherStretch.{TogetherStretch}
use Rattle.mmdb_cmd_diff.specs.Shown.{IsShown}
use Rattle.mmdb_cmd_diff.specs.Showing.{Showing, IsShownPair, offset_in}
use Rattle.mmdb_cmd_diff.specs.Lines.{Line, Both, Tells, IsInBlock, IsInLines, in_run, none, with_stretch, IsTrueLine, AreTrueLines, IsTold, IsToldBlock, AreToldAll, kind_of_run, WritesOf, WritesBlock, IsLineOf, AreLinesOf, WritesBlocks, HasThere, Joins, IsRunIf, GoesOnAs, GoesOnWith}
use Rattle.mmdb_cmd_diff.specs.declared.changes.ShownRun.{ShownRun}

-- ---- addresses in lists of blocks

in-behind : (address : ℕ) (some others : List Block) → IsIn address others → IsIn address (some ++ others)
in-behind address [] others h = h
in-behind address (block ∷ some) others h = inr (in-behind address some others h)

in-front : (address : ℕ) (some others : List Block) → IsIn address some → IsIn address (some ++ others)
in-front address [] others h = absurd h
in-front address (block ∷ some) others (inl h) = inl h
in-front address (block ∷ some) others (inr h) = inr (in-front address some others h)

in-or : (address : ℕ) (some others : List Block) → IsIn address (some ++ others) → IsIn address some ⊎ IsIn address others
in-or address [] others h = inr h
in-or address (block ∷ some) others (inl h) = inl (inl h)
in-or address (block ∷ some) others (inr h) = front (in-or address some others h) where
  front : IsIn address some ⊎ IsIn address others → IsIn address (block ∷ some) ⊎ IsIn address others
  front (inl g) = inl (inr g)
  front (inr g) = inr g

in-either : (address : ℕ) (some : List Block) (last : Block) → IsIn address (some ++ last ∷ []) → IsIn address some ⊎ IsWithin address last
in-either address some last h = one (in-or address some (last ∷ []) h) where
  one : IsIn address some ⊎ IsIn address (last ∷ []) → IsIn address some ⊎ IsWithin address last
  one (inl g) = inl g
  one (inr (inl g)) = inr g
  one (inr (inr g)) = absurd g

-- ---- what waits is joined by itself

blocks-behind : (some others : List Block) → AllByRecursion IsBlock (some ++ others) → AllByRecursion IsBlock others
blocks-behind [] others h = h
blocks-behind (block ∷ some) others h = blocks-behind some others h.1

ascends-behind : (some others : List Block) (at : ℕ) → AscendsFrom at (some ++ others) → AscendsFrom 0 others
ascends-behind [] [] at h = tt
ascends-behind [] (block ∷ others) at h = (omega arith, h.1)
ascends-behind (first ∷ some) others at h = ascends-behind some others (end first) h.1

apart-behind : (some others : List Block) → HasNoHalves (some ++ others) → HasNoHalves others
apart-behind [] others h = h
apart-behind (block ∷ some) others h = apart-behind some others h.1

nothing-sealed : (waiting : List Block) → IsSealed [] waiting
nothing-sealed [] = refl
nothing-sealed (block ∷ waiting) = λ larger same. (tt, tt)

waits-alone : (pushed handed waiting : List Block) → IsJoining pushed handed waiting → IsJoining waiting [] waiting
waits-alone pushed handed waiting h = record {
  joined = record {
    covers = λ address. (λ there. there, λ there. there);
    each = blocks-behind handed waiting h.joined.each;
    ascends = ascends-behind handed waiting 0 h.joined.ascends;
    apart = apart-behind handed waiting h.joined.apart;
  };
  sealed = nothing-sealed waiting;
}

-- where a block is pushed, its addresses and those that waited are handed out now, or wait
pub waits-on : (pushed handed : List Block) (before after : List Block × List Block) (block : Block) (address : ℕ) → IsJoining pushed handed (waiting_of before) → Joins before block after
    → IsIn address (waiting_of before) ⊎ IsWithin address block → IsIn address (settled_of after) ⊎ IsIn address (waiting_of after)
waits-on pushed handed before after block address joining joins there =
    in-or address (settled_of after) (waiting_of after)
    (((joins (waiting_of before) [] (waits-alone pushed handed (waiting_of before) joining)).joined.covers address).0 (among there)) where
      among : IsIn address (waiting_of before) ⊎ IsWithin address block → IsIn address (waiting_of before ++ block ∷ [])
      among (inl h) = in-front address (waiting_of before) (block ∷ []) h
      among (inr h) = in-behind address (waiting_of before) (block ∷ []) (inl h)

-- ---- addresses in lines

pub in-lines-front : (some others : List Line) (is_ipv4 : Bool) (address : ℕ) → IsInLines some is_ipv4 address → IsInLines (some ++ others) is_ipv4 address
in-lines-front [] others is_ipv4 address h = absurd h
in-lines-front (line ∷ some) others is_ipv4 address (inl h) = inl h
in-lines-front (line ∷ some) others is_ipv4 address (inr h) = inr (in-lines-front some others is_ipv4 address h)

pub in-lines-behind : (some others : List Line) (is_ipv4 : Bool) (address : ℕ) → IsInLines others is_ipv4 address → IsInLines (some ++ others) is_ipv4 address
in-lines-behind [] others is_ipv4 address h = h
in-lines-behind (line ∷ some) others is_ipv4 address h = inr (in-lines-behind some others is_ipv4 address h)

module _ (layout : Layout) (showing : Showing) (both : Both) where
  -- where nothing is written
  pub tells-none : (due waiting : Bool → ℕ → Type 0) (a b : Option (List ℕ)) → ((is_ipv4 : Bool) (address : ℕ) → due is_ipv4 address → waiting is_ipv4 address)
      → Appends a b [] → Tells layout showing both due waiting a b
  tells-none due waiting a b f h = ([], [], refl, h, λ is_ipv4 address there. inr (f is_ipv4 address there))

  pub tells-same : (due waiting : Bool → ℕ → Type 0) (a : Option (List ℕ)) → ((is_ipv4 : Bool) (address : ℕ) → due is_ipv4 address → waiting is_ipv4 address)
      → Tells layout showing both due waiting a a
  tells-same due waiting a f = tells-none due waiting a a f (Appends-nil a)

  pub lines-more : (lines others : List Line) (text more : List ℕ) → AreTrueLines layout showing both lines text → AreTrueLines layout showing both others more
      → AreTrueLines layout showing both (lines ++ others) (text ++ more)
  lines-more [] others text more h g = subst (λ t. AreTrueLines layout showing both others (t ++ more)) (sym h) g
  lines-more (line ∷ lines) others text more (rest, one, all, is) g =
      (rest ++ more, one, lines-more lines others rest more all g, ap (λ t. t ++ more) is ∙ append_assoc line.text rest more)

  -- More is written after it: what was due is due then, or was before and is then, or still waits, if it waited.
  pub tells-then : (due first waited second waiting : Bool → ℕ → Type 0) (a b c : Option (List ℕ))
      → ((is_ipv4 : Bool) (address : ℕ) → due is_ipv4 address → first is_ipv4 address ⊎ second is_ipv4 address)
      → ((is_ipv4 : Bool) (address : ℕ) → waited is_ipv4 address → second is_ipv4 address ⊎ waiting is_ipv4 address)
      → Tells layout showing both first waited a b → Tells layout showing both second waiting b c → Tells layout showing both due waiting a c
  tells-then due first waited second waiting a b c is_due goes_on (lines, text, all, before, told) (others, more, rest, after, then) = (
    lines ++ others,
    text ++ more,
    lines-more lines others text more all rest,
    Appends-trans a b c text more before after,
    λ is_ipv4 address there. either is_ipv4 address (is_due is_ipv4 address there),
  ) where
    later : (is_ipv4 : Bool) (address : ℕ) → IsInLines others is_ipv4 address ⊎ waiting is_ipv4 address → IsInLines (lines ++ others) is_ipv4 address ⊎ waiting is_ipv4 address
    later is_ipv4 address (inl h) = inl (in-lines-behind lines others is_ipv4 address h)
    later is_ipv4 address (inr h) = inr h

    still : (is_ipv4 : Bool) (address : ℕ) → second is_ipv4 address ⊎ waiting is_ipv4 address → IsInLines (lines ++ others) is_ipv4 address ⊎ waiting is_ipv4 address
    still is_ipv4 address (inl h) = later is_ipv4 address (then is_ipv4 address h)
    still is_ipv4 address (inr h) = inr h

    sooner : (is_ipv4 : Bool) (address : ℕ) → IsInLines lines is_ipv4 address ⊎ waited is_ipv4 address → IsInLines (lines ++ others) is_ipv4 address ⊎ waiting is_ipv4 address
    sooner is_ipv4 address (inl h) = inl (in-lines-front lines others is_ipv4 address h)
    sooner is_ipv4 address (inr h) = still is_ipv4 address (goes_on is_ipv4 address h)

    either : (is_ipv4 : Bool) (address : ℕ) → first is_ipv4 address ⊎ second is_ipv4 address → IsInLines (lines ++ others) is_ipv4 address ⊎ waiting is_ipv4 address
    either is_ipv4 address (inl h) = sooner is_ipv4 address (told is_ipv4 address h)
    either is_ipv4 address (inr h) = later is_ipv4 address (then is_ipv4 address h)

  -- more addresses wait, which may be due too, or fewer are due
  pub tells-weaker : (due waiting others later : Bool → ℕ → Type 0) (a b : Option (List ℕ)) → ((is_ipv4 : Bool) (address : ℕ) → others is_ipv4 address → due is_ipv4 address ⊎ later is_ipv4 address)
      → ((is_ipv4 : Bool) (address : ℕ) → waiting is_ipv4 address → later is_ipv4 address)
      → Tells layout showing both due waiting a b → Tells layout showing both others later a b
  tells-weaker due waiting others later a b f g (lines, text, all, h, told) =
      (lines, text, all, h, λ is_ipv4 address there. either is_ipv4 address (f is_ipv4 address there)) where
        still : (is_ipv4 : Bool) (address : ℕ) → IsInLines lines is_ipv4 address ⊎ waiting is_ipv4 address → IsInLines lines is_ipv4 address ⊎ later is_ipv4 address
        still is_ipv4 address (inl there) = inl there
        still is_ipv4 address (inr there) = inr (g is_ipv4 address there)

        either : (is_ipv4 : Bool) (address : ℕ) → due is_ipv4 address ⊎ later is_ipv4 address → IsInLines lines is_ipv4 address ⊎ later is_ipv4 address
        either is_ipv4 address (inl there) = still is_ipv4 address (told is_ipv4 address there)
        either is_ipv4 address (inr there) = inr there

  -- blocks are written
  tells-lines : (run : ShownRun) (blocks : List Block) (text : List ℕ) → AreLinesOf layout (Some run) blocks text → AllByRecursion (IsToldBlock showing both (Some run)) blocks
      → (lines : List Line) × AreTrueLines layout showing both lines text × ((address : ℕ) → IsIn address blocks → IsInLines lines run.is_ipv4 address)
  tells-lines run [] text h told = ([], h, λ address there. there)
  tells-lines run (block ∷ blocks) text (line, rest, (network, is, one), all, same) (t, ts) =
      let (lines, true_lines, there) = tells-lines run blocks rest all ts in
      let first : Line = record { is_ipv4 = run.is_ipv4; block = block; text = line } in
      let is_true : IsTrueLine layout showing both first = record { shown = run.shown; network = network; is_network = is; is_line = one; told = t } in
      (first ∷ lines, (rest, is_true, true_lines, same), λ address within. in_one lines there address within) where
        in_one : (lines : List Line) → ((address : ℕ) → IsIn address blocks → IsInLines lines run.is_ipv4 address) → (address : ℕ) → IsIn address (block ∷ blocks)
            → IsInBlock run.is_ipv4 block run.is_ipv4 address ⊎ IsInLines lines run.is_ipv4 address
        in_one lines there address (inl within) = inl (refl, within)
        in_one lines there address (inr within) = inr (there address within)

  pub tells-blocks : (run : ShownRun) (blocks : List Block) (due waiting : Bool → ℕ → Type 0) (a b : Option (List ℕ))
      → WritesBlocks layout (Some run) blocks a b → AreToldAll showing both (Some run) blocks
      → ((is_ipv4 : Bool) (address : ℕ) → due is_ipv4 address → in_run (Some run) blocks is_ipv4 address ⊎ waiting is_ipv4 address)
      → Tells layout showing both due waiting a b
  tells-blocks run blocks due waiting a b (text, all, h) told is_due =
      let (lines, true_lines, there) = tells-lines run blocks text all (recursion_from_All _ blocks told) in
      (lines, text, true_lines, h, λ is_ipv4 address is. in_one lines there is_ipv4 address (is_due is_ipv4 address is)) where
        in_one : (lines : List Line) → ((address : ℕ) → IsIn address blocks → IsInLines lines run.is_ipv4 address) → (is_ipv4 : Bool) (address : ℕ)
            → in_run (Some run) blocks is_ipv4 address ⊎ waiting is_ipv4 address → IsInLines lines is_ipv4 address ⊎ waiting is_ipv4 address
        in_one lines there is_ipv4 address (inl (kind, within)) = inl (subst (λ (k : Bool). IsInLines lines k address) kind (there address within))
        in_one lines there is_ipv4 address (inr still) = inr still

module _ (layout : Layout) where
  lines-last : (run : Option ShownRun) (blocks : List Block) (block : Block) (text line : List ℕ) → AreLinesOf layout run blocks text → IsLineOf layout run block line
      → AreLinesOf layout run (blocks ++ block ∷ []) (text ++ line)
  lines-last run [] block text line h one = (line, [], one, refl, ap (λ t. t ++ line) h ∙ sym (append-nil line))
  lines-last run (first ∷ blocks) block text line (front, rest, a, all, same) one =
      (front, rest ++ line, a, lines-last run blocks block rest line all one, ap (λ t. t ++ line) same ∙ append_assoc front rest line)

  -- one more block is written
  pub writes-last : (run : Option ShownRun) (blocks : List Block) (block : Block) (a b c : Option (List ℕ)) → WritesBlocks layout run blocks a b → WritesBlock layout run block b c
      → WritesBlocks layout run (blocks ++ block ∷ []) a c
  writes-last run blocks block a b c (text, all, first) (line, one, then) =
      (text ++ line, lines-last run blocks block text line all one, Appends-trans a b c text line first then)

  -- the next block of a list is written
  pub writes-step : (other : Layout) (run later : Option ShownRun) (all seen : List Block) (i : ℕ) (d : Block) (a b c : Option (List ℕ)) → i < length all → seen ≡ all
      → other ≡ layout → later ≡ run → WritesBlocks layout run (take i all) a b → WritesBlock other later (get_or seen i d) b c → WritesBlocks layout run (take (i + 1) all) a c
  writes-step other run later all seen i d a b c lt same form goes first next =
      let one : WritesBlock layout run (get_or all i d) b c =
      subst (λ (xs : List Block). WritesBlock layout run (get_or xs i d) b c) same (subst (λ (r : Option ShownRun). WritesBlock layout r (get_or seen i d) b c) goes
      (subst (λ (l : Layout). WritesBlock l later (get_or seen i d) b c) form next)) in
      subst (λ (xs : List Block). WritesBlocks layout run xs a c) (sym (take_more all i d lt)) (writes-last run (take i all) (get_or all i d) a b c first one)

  -- without a run nothing is
  lines-none : (blocks : List Block) → AreLinesOf layout None blocks []
  lines-none [] = refl
  lines-none (block ∷ blocks) = ([], [], refl, lines-none blocks, refl)

  pub writes-none : (run : Option ShownRun) (blocks : List Block) (a : Option (List ℕ)) → is_some run ≡ false → WritesBlocks layout run blocks a a
  writes-none None blocks a none = ([], lines-none blocks, Appends-nil a)
  writes-none (Some run) blocks a none = absurd (cc)

  -- a network of a block of the run
  pub writes-network : (run : Option ShownRun) (block : Block) (network : IpNetwork) (a b : Option (List ℕ)) → IsNetworkOf (kind_of_run run) block network → WritesOf layout network run a b
      → WritesBlock layout run block a b
  writes-network None block network a b is h = ([], refl, h)
  writes-network (Some run) block network a b is (text, line, h) = (text, (network, is, line), h)

-- a network is written after nothing was
writes-behind : (layout : Layout) (run : Option ShownRun) (network : IpNetwork) (a b c : Option (List ℕ)) → Appends a b [] → WritesOf layout network run b c → WritesOf layout network run a c
writes-behind layout None network a b c none h = Appends-trans a b c [] [] none h
writes-behind layout (Some run) network a b c none (text, line, h) = (text, line, Appends-trans a b c [] text none h)

pub writes-again : (layout other : Layout) (run later : Option ShownRun) (network : IpNetwork) (a b c : Option (List ℕ)) → other ≡ layout → later ≡ run
    → Appends a b [] → WritesOf other network later b c → WritesOf layout network run a c
writes-again layout other run later network a b c form goes none h =
    writes-behind layout run network a b c none (subst (λ (r : Option ShownRun). WritesOf layout network r b c) goes (subst (λ (l : Layout). WritesOf l network later b c) form h))

module _ (showing : Showing) (both : Both) (run : ShownRun) where
  told-each : (blocks : List Block) → ((address : ℕ) → IsIn address blocks → IsTold showing both run.is_ipv4 run.shown address)
      → AllByRecursion (IsToldBlock showing both (Some run)) blocks
  told-each [] f = tt
  told-each (block ∷ blocks) f = (λ address h. f address (inl h), told-each blocks (λ address h. f address (inr h)))

  -- what is handed out at the end has the addresses of what was pushed
  pub told-joined : (pushed handed settled : List Block) → IsJoined pushed (handed ++ settled)
      → ((address : ℕ) → IsIn address pushed → IsTold showing both run.is_ipv4 run.shown address) → AreToldAll showing both (Some run) settled
  told-joined pushed handed settled joined f =
      All-from_recursion _ settled (told-each settled (λ address h. f address ((joined.covers address).1 (in-behind address handed settled h))))

  -- and what is handed out before that
  pub told-settled : (pushed handed settled waiting : List Block) → IsJoining pushed (handed ++ settled) waiting
      → ((address : ℕ) → IsIn address pushed → IsTold showing both run.is_ipv4 run.shown address) → AreToldAll showing both (Some run) settled
  told-settled pushed handed settled waiting joining f =
      All-from_recursion _ settled (told-each settled (λ address h.
      f address ((joining.joined.covers address).1 (in-front address (handed ++ settled) waiting (in-behind address handed settled h)))))

  told-last : (stretch : TogetherStretch) (old new : Option ℕ) (pushed : List Block) (address : ℕ) → GoesOnAs stretch.is_ipv4 old new run
      → IsShownPair showing (offset_in run.old) (offset_in run.new) run.shown → HasThere both stretch old new
      → ((address : ℕ) → IsIn address pushed → IsTold showing both run.is_ipv4 run.shown address)
      → IsIn address pushed ⊎ IsWithin address stretch.block → IsTold showing both run.is_ipv4 run.shown address
  told-last stretch old new pushed address goes shown there f (inl h) = f address h
  told-last stretch old new pushed address goes shown there f (inr h) =
      let same : both run.is_ipv4 address ≡ (offset_in run.old, offset_in run.new) =
      ap (λ k. both k address) goes.is_kind ∙ there address h ∙ ap (λ o. (o, new)) (sym goes.has_old) ∙ ap (λ n. (offset_in run.old, n)) (sym goes.has_new) in
      subst (λ (p : Option ℕ × Option ℕ). IsShownPair showing p.0 p.1 run.shown) (sym same) shown

  -- a stretch goes on with a run
  pub told-pushed : (stretch : TogetherStretch) (old new : Option ℕ) (pushed : List Block) → GoesOnAs stretch.is_ipv4 old new run
      → IsShownPair showing (offset_in run.old) (offset_in run.new) run.shown → HasThere both stretch old new
      → ((address : ℕ) → IsIn address pushed → IsTold showing both run.is_ipv4 run.shown address)
      → (address : ℕ) → IsIn address (pushed ++ stretch.block ∷ []) → IsTold showing both run.is_ipv4 run.shown address
  told-pushed stretch old new pushed goes shown there f address h =
      told-last stretch old new pushed address goes shown there f (in-either address pushed stretch.block h)

module _ (layout : Layout) (showing : Showing) (both : Both) where
  -- without a run no text is written
  none-written : (blocks : List Block) (text : List ℕ) → AreLinesOf layout None blocks text → text ≡ []
  none-written [] text h = h
  none-written (block ∷ blocks) text (line, rest, one, all, same) = same ∙ ap (λ l. l ++ rest) one ∙ none-written blocks rest all

  -- the blocks at the end are written
  pub told-finished : (run : Option ShownRun) (waiting settled : List Block) (a b : Option (List ℕ)) → IsRunIf showing both run waiting
      → ((pushed handed : List Block) → IsJoining pushed handed waiting → IsJoined pushed (handed ++ settled)) → settled ≡ waiting
      → WritesBlocks layout run settled a b → Tells layout showing both (in_run run waiting) none a b
  told-finished None waiting settled a b h joins same (text, all, written) =
      tells-none layout showing both (in_run None waiting) none a b (λ is_ipv4 address there. there) (subst (Appends a b) (none-written settled text all) written)
  told-finished (Some run) waiting settled a b h joins same written =
      tells-blocks layout showing both run settled (in_run (Some run) waiting) none a b written
      (told-joined showing both run h.pushed h.handed settled (joins h.pushed h.handed h.joining) h.told)
      (λ is_ipv4 address there. inl (there.0, subst (λ (blocks : List Block). IsIn address blocks) (sym same) there.1))

  -- a stretch is added, and what nothing can join any more is written
  pub told-added : (run later : Option ShownRun) (stretch : TogetherStretch) (old new : Option ℕ) (before after : List Block × List Block) (a b : Option (List ℕ))
      → later ≡ run → IsSomeAnd run (GoesOnAs stretch.is_ipv4 old new) → IsRunIf showing both run (waiting_of before) → HasThere both stretch old new
      → Joins before stretch.block after → WritesBlocks layout later (settled_of after) a b
      → Tells layout showing both (with_stretch stretch (in_run run (waiting_of before))) (in_run run (waiting_of after)) a b
  told-added None later stretch old new before after a b same goes h there joins written = absurd goes
  told-added (Some run) later stretch old new before after a b same goes h there joins written =
      let joining = joins h.pushed h.handed h.joining in
      let told = told-pushed showing both run stretch old new h.pushed goes h.shown there h.told in
      tells-blocks layout showing both run (settled_of after) (with_stretch stretch (in_run (Some run) (waiting_of before))) (in_run (Some run) (waiting_of after)) a b
      (subst (λ (r : Option ShownRun). WritesBlocks layout r (settled_of after) a b) same written)
      (told-settled showing both run (h.pushed ++ stretch.block ∷ []) h.handed (settled_of after) (waiting_of after) joining told)
      (λ is_ipv4 address is. is_due is_ipv4 address is) where
        placed : (is_ipv4 : Bool) (address : ℕ) → run.is_ipv4 ≡ is_ipv4 → IsIn address (settled_of after) ⊎ IsIn address (waiting_of after)
            → in_run (Some run) (settled_of after) is_ipv4 address ⊎ in_run (Some run) (waiting_of after) is_ipv4 address
        placed is_ipv4 address kind (inl within) = inl (kind, within)
        placed is_ipv4 address kind (inr within) = inr (kind, within)

        is_due : (is_ipv4 : Bool) (address : ℕ) → with_stretch stretch (in_run (Some run) (waiting_of before)) is_ipv4 address
            → in_run (Some run) (settled_of after) is_ipv4 address ⊎ in_run (Some run) (waiting_of after) is_ipv4 address
        is_due is_ipv4 address (inl (kind, within)) = placed is_ipv4 address kind (waits-on h.pushed h.handed before after stretch.block address h.joining joins (inl within))
        is_due is_ipv4 address (inr (kind, within)) = placed is_ipv4 address (goes.is_kind ∙ kind) (waits-on h.pushed h.handed before after stretch.block address h.joining joins (inr within))

module _ (showing : Showing) (both : Both) where
  pub run-added : (run : Option ShownRun) (stretch : TogetherStretch) (old new : Option ℕ) (before after : List Block × List Block)
      → IsSomeAnd run (GoesOnAs stretch.is_ipv4 old new) → IsRunIf showing both run (waiting_of before) → HasThere both stretch old new
      → Joins before stretch.block after → IsRunIf showing both run (waiting_of after)
  run-added None stretch old new before after goes h there joins = absurd goes
  run-added (Some run) stretch old new before after goes h there joins = record {
    pushed = h.pushed ++ stretch.block ∷ [];
    handed = h.handed ++ settled_of after;
    joining = joins h.pushed h.handed h.joining;
    told = told-pushed showing both run stretch old new h.pushed goes h.shown there h.told;
    shown = h.shown;
  }

  pub run-same : (run later : Option ShownRun) (joiner after : List Block × List Block) → later ≡ run → after ≡ joiner
      → IsRunIf showing both run (waiting_of joiner) → IsRunIf showing both later (waiting_of after)
  run-same run later joiner after goes kept h =
      subst (λ (r : Option ShownRun). IsRunIf showing both r (waiting_of after)) (sym goes) (subst (λ (j : List Block × List Block). IsRunIf showing both run (waiting_of j)) (sym kept) h)

  -- another run is shown in place of one that shows the same, or of none
  pub run-shown : (run : Option ShownRun) (next : ShownRun) (waiting : List Block) → IfSome run (GoesOnWith next.is_ipv4 next.shown)
      → IsShownPair showing (offset_in next.old) (offset_in next.new) next.shown → IsRunIf showing both run waiting → IsRunIf showing both (Some next) waiting
  run-shown None next waiting goes shown h = record { pushed = []; handed = []; joining = h; told = λ address there. absurd there; shown = shown }
  run-shown (Some run) next waiting goes shown h = record {
    pushed = h.pushed;
    handed = h.handed;
    joining = h.joining;
    told = λ address there whole. told-as address (subst (λ k. IsTold showing both k run.shown address) goes.is_kind (h.told address there)) whole;
    shown = shown;
  } where
    told-as : (address : ℕ) → IsTold showing both next.is_ipv4 run.shown address → IsTold showing both next.is_ipv4 next.shown address
    told-as address f whole =
        let g = f whole in (
          subst (λ t. IsShown showing.sections.in_old (both next.is_ipv4 address).0 t) goes.shows_old g.0,
          subst (λ t. IsShown showing.sections.in_new (both next.is_ipv4 address).1 t) goes.shows_new g.1,
        )

-- without a run nothing waits, so another one has what waited
pub kept-shown : (showing : Showing) (both : Both) (run : Option ShownRun) (next : ShownRun) (waiting : List Block) → IfSome run (GoesOnWith next.is_ipv4 next.shown)
    → (is_ipv4 : Bool) (address : ℕ) → in_run run waiting is_ipv4 address → in_run (Some next) waiting is_ipv4 address
kept-shown showing both None next waiting goes is_ipv4 address there = absurd there
kept-shown showing both (Some run) next waiting goes is_ipv4 address (kind, within) = (sym goes.is_kind ∙ kind, within)

pub in-run-same : (run later : Option ShownRun) (joiner after : List Block × List Block) (is_ipv4 : Bool) (address : ℕ) → later ≡ run → after ≡ joiner
    → in_run run (waiting_of joiner) is_ipv4 address → in_run later (waiting_of after) is_ipv4 address
in-run-same run later joiner after is_ipv4 address goes kept there =
    subst (λ (r : Option ShownRun). in_run r (waiting_of after) is_ipv4 address) (sym goes)
    (subst (λ (j : List Block × List Block). in_run run (waiting_of j) is_ipv4 address) (sym kept) there)

pub tells-as : (layout form : Layout) (showing others : Showing) (both : Both) (due waiting : Bool → ℕ → Type 0) (a b : Option (List ℕ)) → form ≡ layout → others ≡ showing
    → Tells form others both due waiting a b → Tells layout showing both due waiting a b
tells-as layout form showing others both due waiting a b same is h =
    subst (λ (l : Layout). Tells l showing both due waiting a b) same (subst (λ (z : Showing). Tells form z both due waiting a b) is h)
