use Rattle.cfg_build.specs.Chains.{entry}
use Rattle.cfg_build.proofs.ChainsFound.{chain_found}
use Rattle.cfg_build.proofs.Following.{few_followed}
use Rattle.cfg_build.proofs.PassesFollow.{first_entered}
use Rattle.cfg_build.proofs.pass_laws.chains_lead_to_successors.Goals as goal

pub returns-clause-chain : goal.returns-clause-chain
returns-clause-chain c = λ names execs loops k exec well reached found. (chain_found c.reaching_is_told.ensures c.endless_ways_meet_cycles.ensures names execs loops well k exec found reached).are

pub returns-clause-few : goal.returns-clause-few
returns-clause-few c = λ names execs loops k exec is.
    let whole = (chain_found c.reaching_is_told.ensures c.endless_ways_meet_cycles.ensures names execs loops is.well k exec is.found is.reached).whole in
    record { five = few_followed execs 5 (entry execs k) whole; whole = whole }

pub returns-clause-one_hold : goal.returns-clause-one_hold
returns-clause-one_hold c = λ names execs loops k exec well reached found. (chain_found c.reaching_is_told.ensures c.endless_ways_meet_cycles.ensures names execs loops well k exec found reached).one

pub returns-clause-first : goal.returns-clause-first
returns-clause-first c = λ names execs loops well. first_entered c.reaching_is_told.ensures c.endless_ways_meet_cycles.ensures names execs loops well
