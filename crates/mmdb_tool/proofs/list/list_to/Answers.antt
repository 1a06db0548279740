use Rattle.std.proofs.Common.{◌≡◌, ◌++◌, ℕ, List, [], Some, sym, refl, ap, ◌∙◌, subst, append_assoc, append-nil}
use Rattle.std.specs.Io.KnownBytes.{Appends}
use Rattle.std.proofs.KnownBytes.{Appends-trans}
use Rattle.mmdb_reader.specs.File.{Database}
use Rattle.mmdb_reader.specs.Items.{item_view, IsItemOf}
use Rattle.mmdb_reader.specs.Enumeration.{items_to_come, database_walked}
use Rattle.mmdb_tool.specs.Lines.{line_of, lines_of}
use Rattle.mmdb_tool.proofs.ListLemmas.{some_put, one_held, all_held, part_more, kept_more, kept_or_put, not_begun, text_of_list, listing_of, on_err_given}
use Rattle.mmdb_tool.proofs.list.list_to.Goals as goal

pub returns-in_err-items-clause-begun : goal.returns-in_err-items-clause-begun
returns-in_err-items-clause-begun g c = on_err_given _ _ _ (not_begun _ _ _ _)

pub returns-in_err-lines-clause-begun : goal.returns-in_err-lines-clause-begun
returns-in_err-lines-clause-begun g c = on_err_given _ _ _ (not_begun _ _ _ _)

pub returns-in_err-make_room-clause-begun : goal.returns-in_err-make_room-clause-begun
returns-in_err-make_room-clause-begun g c =
    let first = database_walked c.into_iter-item-iterator.result in
    let (done, split, appended, kept) = c.loop-item.invariant.written in
    let held = c.loop-item.lines.items in
    let rest = lines_of first (items_to_come c.loop-item.item-iterator) in
    let given = c.into_iter-item-iterator.ensures.into_iter_gives in
    let listing = c.in_ok-items.ensures.listing in
    let text = text_of_list first _ c.args.reader.now _ _ listing.list (ap database_walked given) c.in_ok-items.ensures.database (ap items_to_come given) listing.comes in
    let all = text ∙ split ∙ sym (append_assoc done held rest) in
    on_err_given _ _ _ (record {
      list = listing.list;
      is_listing = listing_of _ _ _ _ _ c.in_ok-items.ensures.database listing.is_listing;
      written = part_more _ _ _ _ done held rest all appended c.in_err-make_room.ensures.begun;
    })

pub returns-in_err-put_item_line-clause-begun : goal.returns-in_err-put_item_line-clause-begun
returns-in_err-put_item_line-clause-begun g c =
    let first = database_walked c.into_iter-item-iterator.result in
    let (done, split, appended, kept) = c.loop-item.invariant.written in
    let room = c.in_ok-make_room.ensures.put in
    let left = c.make_room.new.lines.items in
    let rest = lines_of first (items_to_come c.loop-item.item-iterator) in
    let given = c.into_iter-item-iterator.ensures.into_iter_gives in
    let listing = c.in_ok-items.ensures.listing in
    let text = text_of_list first _ c.args.reader.now _ _ listing.list (ap database_walked given) c.in_ok-items.ensures.database (ap items_to_come given) listing.comes in
    on_err_given _ _ _ (record {
      list = listing.list;
      is_listing = listing_of _ _ _ _ _ c.in_ok-items.ensures.database listing.is_listing;
      written = record {
        front = done ++ room.front;
        rest = left ++ rest;
        is_front = text ∙ some_put _ done room.front left _ rest split room.is_front;
        appended = Appends-trans _ _ _ _ _ appended room.appended;
      };
    })

pub returns-in_err-put_item_line-clause-kept : goal.returns-in_err-put_item_line-clause-kept
returns-in_err-put_item_line-clause-kept g c =
    let first = database_walked c.into_iter-item-iterator.result in
    let (done, split, appended, kept) = c.loop-item.invariant.written in
    let room = c.in_ok-make_room.ensures.put in
    let left = c.make_room.new.lines.items in
    let rest = lines_of first (items_to_come c.loop-item.item-iterator) in
    let given = c.into_iter-item-iterator.ensures.into_iter_gives in
    let listing = c.in_ok-items.ensures.listing in
    let text = text_of_list first _ c.args.reader.now _ _ listing.list (ap database_walked given) c.in_ok-items.ensures.database (ap items_to_come given) listing.comes in
    kept_or_put _ _ _ _ _ _ _ _ (record {
      list = listing.list;
      is_listing = listing_of _ _ _ _ _ c.in_ok-items.ensures.database listing.is_listing;
      written = record {
        front = done ++ room.front;
        rest = left ++ rest;
        is_front = text ∙ some_put _ done room.front left _ rest split room.is_front;
        appended = Appends-trans _ _ _ _ _ appended room.appended;
      };
    }) (kept_more _ _ _ done room.front left _ kept c.in_ok-make_room.ensures.kept room.is_front)

pub loop-item-preserved : goal.loop-item-preserved
loop-item-preserved g c =
    let first = database_walked c.into_iter-item-iterator.result in
    let (done, split, appended, kept) = c.loop-item.invariant.written in
    let room = c.in_ok-make_room.ensures.put in
    let left = c.make_room.new.lines.items in
    let here = items_to_come c.loop-item.item-iterator in
    let P : Database → Type 0 = λ d. IsItemOf d (Some c.in-Some.item) in
    let is_item : IsItemOf first (Some c.in-Some.item) = subst P c.loop-item.invariant.walked c.in-Some.ensures.steps.1.1 in
    let line = line_of first (item_view c.in-Some.item) in
    let put = some_put _ done room.front left _ (lines_of first here) split room.is_front in
    let more = one_held first _ (done ++ room.front) left line here (item_view c.in-Some.item) _ put c.in-Some.ensures.steps.0 refl in
    let coming = lines_of first (items_to_come c.next.new.self) in
    record {
      can = tt;
      ends = tt;
      walked = c.in-Some.ensures.steps.1.0 ∙ c.loop-item.invariant.walked;
      written = (done ++ room.front, more ∙ ap (λ (held : List ℕ). (done ++ room.front) ++ (held ++ coming)) (sym (c.in_ok-put_item_line.ensures first is_item)), Appends-trans _ _ _ _ _ appended room.appended, kept_more _ _ _ done room.front left _ kept c.in_ok-make_room.ensures.kept room.is_front);
      fault = λ free. c.in_ok-make_room.ensures.fault (c.loop-item.invariant.fault free);
    }

pub returns-in_err-put_all-clause-begun : goal.returns-in_err-put_all-clause-begun
returns-in_err-put_all-clause-begun g c =
    let first = database_walked c.into_iter-item-iterator.result in
    let (done, split, appended, kept) = c.loop-item.invariant.written in
    let held = c.loop-item.lines.items in
    let given = c.into_iter-item-iterator.ensures.into_iter_gives in
    let listing = c.in_ok-items.ensures.listing in
    let text = text_of_list first _ c.args.reader.now _ _ listing.list (ap database_walked given) c.in_ok-items.ensures.database (ap items_to_come given) listing.comes in
    let put = c.as_slice.result.now in
    let same : held ≡ put = sym c.as_slice.ensures.value in
    let all = text ∙ all_held first _ done held _ split c.in-None.ensures.steps.0.0 ∙ ap (λ (held : List ℕ). done ++ held) same ∙ sym (append-nil (done ++ put)) in
    on_err_given _ _ _ (record {
      list = listing.list;
      is_listing = listing_of _ _ _ _ _ c.in_ok-items.ensures.database listing.is_listing;
      written = part_more _ _ _ _ done put [] all appended c.in_err-put_all.ensures.begun;
    })

pub returns-clause-whole : goal.returns-clause-whole
returns-clause-whole g c =
    let first = database_walked c.into_iter-item-iterator.result in
    let (done, split, appended, kept) = c.loop-item.invariant.written in
    let held = c.loop-item.lines.items in
    let given = c.into_iter-item-iterator.ensures.into_iter_gives in
    let listing = c.in_ok-items.ensures.listing in
    let text = text_of_list first _ c.args.reader.now _ _ listing.list (ap database_walked given) c.in_ok-items.ensures.database (ap items_to_come given) listing.comes in
    let same : held ≡ c.as_slice.result.now = sym c.as_slice.ensures.value in
    let all = text ∙ all_held first _ done held _ split c.in-None.ensures.steps.0.0 ∙ ap (λ (held : List ℕ). done ++ held) same in
    record {
      list = listing.list;
      is_listing = listing_of _ _ _ _ _ c.in_ok-items.ensures.database listing.is_listing;
      written = subst (Appends _ _) (sym all) (Appends-trans _ _ _ _ _ appended c.in_ok-put_all.ensures.whole);
    }
