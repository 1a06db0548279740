use Rattle.std.proofs.Common.{◌+◌, arith, ap, ◌∙◌}
use Rattle.mmdb_tree.proofs.TableLemmas.{taken-le}
use Rattle.mmdb_c.specs.Many.{ipv4_given, ipv6_given}
use Rattle.mmdb_c.proofs.OpenedLemmas.{Reports-v4, Reports-v6, Reports-none}
use Rattle.mmdb_c.proofs.db.Db.found_for.Goals as goal

pub returns-then-address : goal.returns-then-address
returns-then-address c =
    let six = c.if-address.true in
    let file = c.args.self.now.file.now in
    let facts = c.args.self.now.facts in
    record {
      ipv4 = λ four. absurd (cc);
      ipv6 = λ _ a db same h v6.
          let is = c.args.self.now.is_of db h in
          Reports-v6 file facts db h is c.found.result c.found.ensures.status a (ipv6_given c.args.address) c.args.leaf.taken c.args.leaf.number same v6 (c.requires.ipv6 six c.if-self-ne6.false) (c.found.ensures.outcome db is) c.found.ensures.netmask;
      not_asked = λ _ none. absurd (none.ipv4 (let is = (c.args.self.now.is_of none.db none.is).ip in let v6 = c.if-self-ne6.false in cc));
    }

pub returns-then-self : goal.returns-then-self
returns-then-self c =
    let four = c.if-address.false in
    record {
      ipv4 = λ _ a db same h.
          let is = c.args.self.now.is_of db h in
          Reports-none c.args.self.now.file.now c.args.self.now.facts db h is c.found-then-self.result c.found-then-self.ensures.status a c.if-self.true (c.found-then-self.ensures.outcome db is) (c.found-then-self.ensures.netmask ∙ c.from.ensures);
      ipv6 = λ six. absurd (cc);
      not_asked = λ six. absurd (cc);
    }

pub overflow_add-before_ipv4 : goal.overflow_add-before_ipv4
overflow_add-before_ipv4 c =
    let few = taken-le _ _ 32 _ _ _ (c.requires.ipv4 c.if-address.false c.if-self.false) in
    let before = c.before_ipv4.ensures.few in
    omega (arith, few, before)

pub returns : goal.returns
returns c =
    let four = c.if-address.false in
    let file = c.args.self.now.file.now in
    let facts = c.args.self.now.facts in
    record {
      ipv4 = λ _ a db same h.
          let is = c.args.self.now.is_of db h in
          Reports-v4 file facts db h is c.found-2.result c.found-2.ensures.status a (ipv4_given c.args.address) c.args.leaf.taken c.args.leaf.number same c.if-self.false (c.requires.ipv4 four c.if-self.false) (c.found-2.ensures.outcome db is) (c.found-2.ensures.netmask ∙ ap (λ n. n + c.args.leaf.taken) c.before_ipv4.ensures.value);
      ipv6 = λ six. absurd (cc);
      not_asked = λ six. absurd (cc);
    }
