use Rattle.checks.proofs.+describe.Given as goal

-- the inputs of a node stand before it
abbrev pub decreases-describe : goal.decreases-describe
decreases-describe l = l.n
