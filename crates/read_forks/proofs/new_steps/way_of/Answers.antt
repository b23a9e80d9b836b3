use Rattle.std.proofs.Common.{◌≡◌, ◌<◌, ◌∙◌, Some, length, slice_get, refl, sym, arith, rules}
use Rattle.std.proofs.lemmas.Option.{slice_get_read}
use Rattle.op_net.specs.NetView.{net_of}
use Rattle.read_forks.proofs.FoundWays.{leads_out, link_node, own_line, own_name, way_of_link}
use Rattle.read_forks.proofs.new_steps.way_of.Goals as goal

pub overflow_cast-j : goal.overflow_cast-j
overflow_cast-j g c =
    let links = c.args.links.now.items in
    let link = c.index-link.result.now in
    let is : slice_get links c.args.at ≡ Some link = slice_get_read links (length links) c.args.at link refl c.requires.inside c.index-link.ensures in
    let step = c.at-step.result in
    let own = c.requires.steps.own c.args.at link is in
    let from = own.from step c.at-step.ensures in
    let below = own.below step c.at-step.ensures in
    let small : step.count < 4294967296 = search rules in
    omega (arith, from, below, small)

pub way_from-requires : goal.way_from-requires
way_from-requires g c =
    let x = net_of c.args.net.now in
    let steps = c.args.steps.now in
    let links = c.args.links.now.items in
    let link = c.index-link.result.now in
    let is : slice_get links c.args.at ≡ Some link = slice_get_read links (length links) c.args.at link refl c.requires.inside c.index-link.ensures in
    let low = link_node x steps links c.requires.steps c.args.at link is in
    let all = c.requires.steps.all in
    let step = c.at-step.result in
    let there : slice_get steps link.node ≡ Some step = c.at-step.ensures in
    let name = sym c.name.ensures ∙ c.in-Op.is in
    let own_loads = (c.requires.steps.each link.node step there).loads in
    (omega arith, (c.requires.steps, (low, (own_name x steps links c.requires.steps c.args.at link is step there _ _ name, (own_loads, own_line x steps links c.requires.steps c.args.at link is step there _ _ name)))))

pub returns-in-Op : goal.returns-in-Op
returns-in-Op g c =
    let x = net_of c.args.net.now in
    let steps = c.args.steps.now in
    let links = c.args.links.now.items in
    let link = c.index-link.result.now in
    let is : slice_get links c.args.at ≡ Some link = slice_get_read links (length links) c.args.at link refl c.requires.inside c.index-link.ensures in
    let low = link_node x steps links c.requires.steps c.args.at link is in
    let all = c.requires.steps.all in
    let step = c.at-step.result in
    let there : slice_get steps link.node ≡ Some step = c.at-step.ensures in
    let name = sym c.name.ensures ∙ c.in-Op.is in
    way_of_link x steps links c.requires.steps c.args.at link is step there _ _ name c.way_from.result c.way_from.ensures

pub returns-in-Switch : goal.returns-in-Switch
returns-in-Switch g c =
    let x = net_of c.args.net.now in
    let steps = c.args.steps.now in
    let links = c.args.links.now.items in
    let link = c.index-link.result.now in
    let is : slice_get links c.args.at ≡ Some link = slice_get_read links (length links) c.args.at link refl c.requires.inside c.index-link.ensures in
    leads_out x steps links c.requires.steps c.args.at link is (λ p i named. (let e = sym named ∙ sym c.name.ensures ∙ c.in-Switch.is in absurd cc))

pub returns-in-Merge : goal.returns-in-Merge
returns-in-Merge g c =
    let x = net_of c.args.net.now in
    let steps = c.args.steps.now in
    let links = c.args.links.now.items in
    let link = c.index-link.result.now in
    let is : slice_get links c.args.at ≡ Some link = slice_get_read links (length links) c.args.at link refl c.requires.inside c.index-link.ensures in
    leads_out x steps links c.requires.steps c.args.at link is (λ p i named. (let e = sym named ∙ sym c.name.ensures ∙ c.in-Merge.is in absurd cc))

pub returns-in-Act : goal.returns-in-Act
returns-in-Act g c =
    let x = net_of c.args.net.now in
    let steps = c.args.steps.now in
    let links = c.args.links.now.items in
    let link = c.index-link.result.now in
    let is : slice_get links c.args.at ≡ Some link = slice_get_read links (length links) c.args.at link refl c.requires.inside c.index-link.ensures in
    leads_out x steps links c.requires.steps c.args.at link is (λ p i named. (let e = sym named ∙ sym c.name.ensures ∙ c.in-Act.is in absurd cc))
