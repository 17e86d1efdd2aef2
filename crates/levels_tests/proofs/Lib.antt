mod Singles
