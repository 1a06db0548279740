use Rattle.std.proofs.Common.{◌≡◌, ℕ, List, Option, None, Bool, true, false, refl, sym, subst}
use Rattle.mmdb_filter.specs.declared.counts.Outcome.TheVariants.{Found}
use Rattle.mmdb_format.specs.Unfolding.{Tree}
use Rattle.mmdb_reader.specs.declared.path.PathElement.{PathElement}
use Rattle.mmdb_cmd_enrich.specs.Layers.{IsFirstKey, value_only}
use Rattle.mmdb_cmd_enrich.specs.Template.{IsTextOf}
use Rattle.mmdb_cmd_enrich.proofs.AddedLaws.{held}
use Rattle.mmdb_cmd_enrich.proofs.FirstLaws.{first_added, still_remembers}
use Rattle.mmdb_cmd_enrich.proofs.enrichment.Enrichment.put_first.Goals as goal

pub returns-then-not-tries_first-clause-fits : goal.returns-then-not-tries_first-clause-fits
returns-then-not-tries_first-clause-fits g c = still_remembers (g.W.Template.template c.args.self.now.what) (g.D.Ask.databases c.args.self.now.from) c.args.texts.now _ c.tries_first.ensures.cache c.tries_first.ensures.none c.requires.fits

pub returns-in_err-outcome-clause-fits : goal.returns-in_err-outcome-clause-fits
returns-in_err-outcome-clause-fits g c = still_remembers (g.W.Template.template c.args.self.now.what) (g.D.Ask.databases c.args.self.now.from) c.args.texts.now _ c.tries_first.ensures.cache c.tries_first.ensures.none c.requires.fits

pub returns-in_default-outcome : goal.returns-in_default-outcome
returns-in_default-outcome g c = record {
  added = λ no. let not : ◌≡◌ {A = Bool} false true = no in absurd (cc);
  none = λ same. refl;
  fits = still_remembers (g.W.Template.template c.args.self.now.what) (g.D.Ask.databases c.args.self.now.from) c.args.texts.now _ c.tries_first.ensures.cache c.tries_first.ensures.none c.requires.fits;
}

pub returns-in_err-put_at-clause-fits : goal.returns-in_err-put_at-clause-fits
returns-in_err-put_at-clause-fits g c =
    let template = g.W.Template.template c.args.self.now.what in
    let dbs = g.D.Ask.databases c.args.self.now.from in
    let offsets = g.D.Found.FoundRecords.offsets c.args.found.now in
    let number = c.in-Some-Some.number in
    let begins = held c.keys.result.first number (IsFirstKey offsets) c.in-Some-Some.is-1 (c.keys.ensures dbs c.requires.of).1 in
    let one : List PathElement → Option (Option Tree) = λ path. value_only (g.D.Found.Record.ReadAlong.reads c.in-Some-Some.first.now path) in
    let each : List PathElement → Option (Option Tree) = λ path. None in
    let made = subst (λ o. IsTextOf template one each None c.put_text.new.text.items o) c.in-Found.is c.in_ok-outcome.ensures in
    let same : c.put_text.new.text.items ≡ c.as_slice-text.result.now = sym c.as_slice-text.ensures.value in
    let here = subst (λ (t : List ℕ). IsTextOf template one each None t Found) same made in
    let now = still_remembers template dbs c.args.texts.now c.tries_first.new.texts c.tries_first.ensures.cache c.tries_first.ensures.none c.requires.fits in
    record {
      kept = c.keep.ensures (record { template = template; databases = dbs }) now.kept
          (λ shown others is. first_added template dbs offsets others number one each c.as_slice-text.result.now shown (c.tries_first.ensures.kept c.if-not-tries_first.false) begins is (c.in-Some-Some.ensures dbs c.requires.of) (λ path. refl) here);
      none = now.none;
    }

pub returns-clause-fits : goal.returns-clause-fits
returns-clause-fits g c =
    let template = g.W.Template.template c.args.self.now.what in
    let dbs = g.D.Ask.databases c.args.self.now.from in
    let offsets = g.D.Found.FoundRecords.offsets c.args.found.now in
    let number = c.in-Some-Some.number in
    let begins = held c.keys.result.first number (IsFirstKey offsets) c.in-Some-Some.is-1 (c.keys.ensures dbs c.requires.of).1 in
    let one : List PathElement → Option (Option Tree) = λ path. value_only (g.D.Found.Record.ReadAlong.reads c.in-Some-Some.first.now path) in
    let each : List PathElement → Option (Option Tree) = λ path. None in
    let made = subst (λ o. IsTextOf template one each None c.put_text.new.text.items o) c.in-Found.is c.in_ok-outcome.ensures in
    let same : c.put_text.new.text.items ≡ c.as_slice-text.result.now = sym c.as_slice-text.ensures.value in
    let here = subst (λ (t : List ℕ). IsTextOf template one each None t Found) same made in
    let now = still_remembers template dbs c.args.texts.now c.tries_first.new.texts c.tries_first.ensures.cache c.tries_first.ensures.none c.requires.fits in
    record {
      kept = c.keep.ensures (record { template = template; databases = dbs }) now.kept
          (λ shown others is. first_added template dbs offsets others number one each c.as_slice-text.result.now shown (c.tries_first.ensures.kept c.if-not-tries_first.false) begins is (c.in-Some-Some.ensures dbs c.requires.of) (λ path. refl) here);
      none = now.none;
    }

pub returns-clause-added : goal.returns-clause-added
returns-clause-added g c = λ yes network.
    let template = g.W.Template.template c.args.self.now.what in
    let dbs = g.D.Ask.databases c.args.self.now.from in
    let offsets = g.D.Found.FoundRecords.offsets c.args.found.now in
    let number = c.in-Some-Some.number in
    let begins = held c.keys.result.first number (IsFirstKey offsets) c.in-Some-Some.is-1 (c.keys.ensures dbs c.requires.of).1 in
    let one : List PathElement → Option (Option Tree) = λ path. value_only (g.D.Found.Record.ReadAlong.reads c.in-Some-Some.first.now path) in
    let each : List PathElement → Option (Option Tree) = λ path. None in
    let made = subst (λ o. IsTextOf template one each None c.put_text.new.text.items o) c.in-Found.is c.in_ok-outcome.ensures in
    let same : c.put_text.new.text.items ≡ c.as_slice-text.result.now = sym c.as_slice-text.ensures.value in
    let here = subst (λ (t : List ℕ). IsTextOf template one each None t Found) same made in
    let adds = first_added template dbs offsets offsets number one each c.as_slice-text.result.now network (c.tries_first.ensures.kept c.if-not-tries_first.false) begins begins (c.in-Some-Some.ensures dbs c.requires.of) (λ path. refl) here in
    (c.as_slice-text.result.now, Found, adds, (refl, c.in_ok-put_at.ensures.1))
