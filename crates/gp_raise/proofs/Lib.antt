mod StepsRaised
